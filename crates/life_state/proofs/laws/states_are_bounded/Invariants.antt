-- The rows so far have nine places.
use Rattle.std.proofs.Common.{◌≡◌, ℕ, ◌<◌, length, slice_index_or, []}
use Rattle.life_state.proofs.laws.states_are_bounded.Given as goal

abbrev pub invariant-loop-c : goal.invariant-loop-c
invariant-loop-c l = (k : ℕ) → k < l.c → length (slice_index_or l.state.facts k []) ≡ 9
