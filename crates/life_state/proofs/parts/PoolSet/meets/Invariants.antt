-- None so far is of both.
use Rattle.std.proofs.Common.{◌≡◌, ◌&&◌, ℕ, ◌<◌, false, slice_index_or}
use Rattle.life_state.proofs.parts.PoolSet.meets.Given as goal

abbrev pub invariant-loop-q : goal.invariant-loop-q
invariant-loop-q l = (k : ℕ) → k < l.q → (slice_index_or l.self.own k false && slice_index_or l.other.own k false) ≡ false
