-- The variables below decide.
use Rattle.std.proofs.Common.{◌≡◌}
use Rattle.run_model.specs.Cursors.{found_below}
use Rattle.run_model.specs.State.{is_named}
use Rattle.interp_state.specs.Slots.{slot_at, name_in}
use Rattle.interp_checks.proofs.places.slot_of.Given as goal

abbrev pub invariant-loop-b : goal.invariant-loop-b
invariant-loop-b l = found_below 9 (λ b. is_named (name_in (slot_at l.instance b)) l.name) ≡ found_below l.b (λ b. is_named (name_in (slot_at l.instance b)) l.name)
