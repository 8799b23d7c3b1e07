-- None so far is of the first set alone.
use Rattle.std.proofs.Common.{◌≡◌, ◌&&◌, not, ℕ, ◌<◌, false, slice_index_or}
use Rattle.life_state.proofs.parts.PoolSet.leq.Given as goal

abbrev pub invariant-loop-q : goal.invariant-loop-q
invariant-loop-q l = (k : ℕ) → k < l.q → (slice_index_or l.self.own k false && not (slice_index_or l.other.own k false)) ≡ false
