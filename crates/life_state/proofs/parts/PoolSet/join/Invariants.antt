-- The pools so far are those of both.
use Rattle.std.proofs.Common.{◌≡◌, ◌||◌, ℕ, ◌<◌, false, length, slice_index_or}
use Rattle.life_state.proofs.parts.PoolSet.join.Given as goal

abbrev pub invariant-loop-q : goal.invariant-loop-q
invariant-loop-q l =
    (length l.own ≡ 8) × ((k : ℕ) → k < l.q → slice_index_or l.own k false ≡ (slice_index_or l.self.own k false || slice_index_or l.other.own k false))
