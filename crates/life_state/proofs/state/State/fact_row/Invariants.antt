-- The facts so far are written.
use Rattle.std.proofs.Common.{◌≡◌, ℕ, ◌<◌, false, length, slice_index_or}
use Rattle.life_state.specs.Facts.{facts_of}
use Rattle.life_state.specs.Seen.{seen, seen_cursors, keep_of}
use Rattle.life_state.proofs.state.State.fact_row.Given as goal

abbrev pub invariant-loop-d : goal.invariant-loop-d
invariant-loop-d l =
    (length l.row ≡ 9) × ((k : ℕ) → k < l.d → slice_index_or l.row k false ≡ facts_of (keep_of l.keep (seen l.self)) (seen_cursors l.cursors) l.c k)
