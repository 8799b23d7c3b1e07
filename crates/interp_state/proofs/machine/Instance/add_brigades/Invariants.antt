use Rattle.std.proofs.Common.{◌≡◌, ℕ, true, Some, ◌<◌, ◌⊎◌}
use Rattle.run_model.specs.Pools.{is_in}
use Rattle.interp_state.specs.Slots.{slot_at, name_in}
use Rattle.interp_state.proofs.machine.Instance.add_brigades.Given as goal

abbrev pub invariant-loop-slot : goal.invariant-loop-slot
invariant-loop-slot l = record {
  kept : (n : ℕ) → is_in n l.fn.names.items ≡ true → is_in n l.names.items ≡ true;
  only : (n : ℕ) → is_in n l.names.items ≡ true → (is_in n l.fn.names.items ≡ true) ⊎ ((b : ℕ) × (name_in (slot_at l.self b) ≡ Some n));
  named : (b n : ℕ) → b < l.slot-index → name_in (slot_at l.self b) ≡ Some n → is_in n l.names.items ≡ true;
}
