-- The variable is set.
use Rattle.std.proofs.Common.{None}
use Rattle.run_model.specs.declared.bucket.Mark.TheVariants.{Usable}
use Rattle.brigade_ops.specs.Store.{lists, brigade_of, pool_of, next_name}
use Rattle.brigade_ops.proofs.Stores.{brigades}
use Rattle.interp_state.specs.declared.machine.Slot.TheVariants as slot
use Rattle.interp_calls.proofs.Handed.{held_taken}
use Rattle.interp_state.proofs.Vars.{seen_var}
use Rattle.interp_calls.proofs.passes.take_in.Goals as goal

pub returns-clause-seen : goal.returns-clause-seen
returns-clause-seen g c view call =
    seen_var (lists c.args.store.now) (next_name c.args.store.now) view c.args.instance.now c.set_slot.new.self call 8
    (slot.Made c.args.name None Usable) c.set_slot.ensures.rest c.set_slot.ensures.slots

pub returns-clause-held : goal.returns-clause-held
returns-clause-held g c call free other pos held =
    let s = c.args.store.now in
    held_taken (brigade_of s) (lists s) (pool_of s) (next_name s) c.args.instance.now c.set_slot.new.self call c.args.name c.set_slot.ensures.slots free other pos
    (brigades s c.args.name c.requires) held
