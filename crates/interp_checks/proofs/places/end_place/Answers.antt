-- A brigade that is there is in the variable that names it.
use Rattle.std.proofs.Common.{◌≡◌, true, false, is_some, sym, ◌∙◌}
use Rattle.brigade_ops.specs.Store.{lists}
use Rattle.interp_state.proofs.Slots.{variable_slot, variable_none}
use Rattle.interp_checks.proofs.places.end_place.Goals as goal

pub returns-then-has-clause-at : goal.returns-then-has-clause-at
returns-then-has-clause-at g c =
    λ next view call.
    let there : is_some (lists c.args.store.now c.args.b) ≡ true = sym c.has.ensures.value ∙ c.if-has.true in
    c.slot_of.ensures.found ∙ sym (variable_slot (lists c.args.store.now) next view c.args.instance.now call c.args.b there)

pub returns-else-has-clause-at : goal.returns-else-has-clause-at
returns-else-has-clause-at g c =
    λ next view call.
    let gone : is_some (lists c.args.store.now c.args.b) ≡ false = sym c.has.ensures.value ∙ c.if-has.false in
    sym (variable_none (lists c.args.store.now) next view c.args.instance.now call c.args.b gone)
