-- The cursors so far moved.
use Rattle.std.proofs.Common.{◌≡◌, ℕ, ◌<◌, length}
use Rattle.life_state.specs.Seen.{seen, seen_cursors, motion_of}
use Rattle.life_state.proofs.state.State.cursors_after.Given as goal

abbrev pub invariant-loop-k : goal.invariant-loop-k
invariant-loop-k l = (length l.cursors ≡ 9) × ((i : ℕ) → i < l.k → seen_cursors l.cursors i ≡ motion_of l.motion (seen l.self) i)
