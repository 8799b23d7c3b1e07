-- The brigade is there.
use Rattle.std.proofs.Common.{[]}
use Rattle.run_model.specs.declared.bucket.Mark.TheVariants.{Usable}
use Rattle.brigade_ops.specs.Store.{lists, brigade_of, pool_of, next_name}
use Rattle.interp_exec.proofs.CarriedOut.{names_marked}
use Rattle.interp_state.proofs.Names.{apart_in, held_kept, no_less, still_on}
use Rattle.interp_state.proofs.Vars.{cleaned_step, held_marked}
use Rattle.interp_state.proofs.LeftAlone.{left_on, ours_slot}
use Rattle.interp_exec.proofs.effects.clean.Goals as goal

pub returns-clause-new : goal.returns-clause-new
returns-clause-new g c =
    λ view call held.
    cleaned_step (lists c.args.store.now) (lists c.clean.new.self) (next_name c.args.store.now) (next_name c.clean.new.self) view c.args.instance.now c.set_mark.new.self call c.args.b
    c.brigade-name.result (apart_in (brigade_of c.args.store.now) (lists c.args.store.now) (pool_of c.args.store.now) (next_name c.args.store.now) c.args.instance.now call held)
    (c.brigade-name.ensures.live (lists c.args.store.now) c.requires.live) c.set_mark.ensures.rest c.set_mark.ensures.slots c.clean.ensures.next c.clean.ensures.out

pub returns-clause-held : goal.returns-clause-held
returns-clause-held g c =
    λ call held.
    held_marked (brigade_of c.clean.new.self) (lists c.clean.new.self) (pool_of c.clean.new.self)
    (next_name c.clean.new.self) c.args.instance.now c.set_mark.new.self call c.args.b Usable c.set_mark.ensures.slots
    (held_kept c.args.store.now c.clean.new.self (no_less (next_name c.args.store.now) (next_name c.clean.new.self) c.clean.ensures.next) c.clean.ensures.names c.clean.ensures.pools
    (still_on (lists c.args.store.now) (lists c.clean.new.self) c.brigade-name.result (λ xs. []) c.clean.ensures.out)
    c.args.instance.now call held)

pub returns-clause-left : goal.returns-clause-left
returns-clause-left g c =
    λ call.
    left_on c.args.store.now c.clean.new.self (no_less (next_name c.args.store.now) (next_name c.clean.new.self) c.clean.ensures.next) c.clean.ensures.names c.clean.ensures.pools
    c.clean.ensures.references c.clean.ensures.unasked c.brigade-name.result (λ xs. []) c.clean.ensures.out c.args.instance.now call
    (ours_slot c.args.instance.now call c.args.b c.brigade-name.result c.brigade-name.ensures.name)

pub returns-clause-slots : goal.returns-clause-slots
returns-clause-slots g c = names_marked c.args.instance.now c.set_mark.new.self c.args.b Usable c.set_mark.ensures.slots
