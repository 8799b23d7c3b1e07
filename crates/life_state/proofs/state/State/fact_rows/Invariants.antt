-- The rows so far are those of their cursors.
use Rattle.std.proofs.Common.{◌≡◌, ℕ, ◌<◌, false, [], length, slice_index_or}
use Rattle.life_state.specs.Facts.{facts_of}
use Rattle.life_state.specs.Seen.{seen, seen_cursors, keep_of}
use Rattle.life_state.proofs.state.State.fact_rows.Given as goal

abbrev pub invariant-loop-c : goal.invariant-loop-c
invariant-loop-c l = record {
  long : length l.rows ≡ 9;
  each : (i : ℕ) → i < l.c → (length (slice_index_or l.rows i []) ≡ 9)
      × ((j : ℕ) → j < 9 → slice_index_or (slice_index_or l.rows i []) j false ≡ facts_of (keep_of l.keep (seen l.self)) (seen_cursors l.cursors) i j);
}
