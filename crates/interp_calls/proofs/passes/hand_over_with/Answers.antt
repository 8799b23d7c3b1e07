-- The variable is marked, and what it holds is told by its list.
use Rattle.std.specs.Prelude.{if◌then◌else◌}
use Rattle.std.proofs.Common.{◌==◌, ◌∙◌, ap, ◌||◌}
use Rattle.run_model.specs.declared.bucket.Mark.TheVariants.{Passed}
use Rattle.brigade_ops.specs.Store.{lists, brigade_of, pool_of, next_name}
use Rattle.interp_state.specs.declared.machine.Slot.{Slot}
use Rattle.interp_state.specs.Seen.{calls_in}
use Rattle.interp_state.specs.Slots.{marked, slot_at}
use Rattle.interp_calls.proofs.Handed.{seen_lent}
use Rattle.interp_state.proofs.HeldAlike.{held_slots}
use Rattle.interp_state.proofs.Vars.{held_marked}
use Rattle.interp_calls.proofs.passes.hand_over_with.Goals as goal

pub returns-clause-seen : goal.returns-clause-seen
returns-clause-seen g c view call =
    seen_lent (lists c.args.store.now)
    (next_name c.args.store.now) view c.args.instance.now c.note_sent.new.self c.set_mark.new.self call c.args.b c.note_sent.ensures.slots c.note_sent.ensures.pools c.note_sent.ensures.numbers c.note_sent.ensures.left
    (c.note_sent.ensures.sent ∙ ap (λ t. c.args.instance.now.sent || t) (c.requires.eos (calls_in view call))) c.set_mark.ensures.rest c.set_mark.ensures.slots

pub returns-clause-held : goal.returns-clause-held
returns-clause-held g c call held =
    let s = c.args.store.now in
    held_marked (brigade_of s) (lists s) (pool_of s) (next_name s) c.note_sent.new.self c.set_mark.new.self call c.args.b Passed c.set_mark.ensures.slots
    (held_slots (brigade_of s) (lists s) (pool_of s) (next_name s) c.args.instance.now c.note_sent.new.self call c.note_sent.ensures.slots held)

pub returns-clause-slots : goal.returns-clause-slots
returns-clause-slots g c a =
    c.set_mark.ensures.slots a
    ∙ (ap (λ (s : Slot). if a == c.args.b then marked Passed s else slot_at c.note_sent.new.self a) (c.note_sent.ensures.slots c.args.b)
    ∙ ap (λ (s : Slot). if a == c.args.b then marked Passed (slot_at c.args.instance.now c.args.b) else s) (c.note_sent.ensures.slots a))
