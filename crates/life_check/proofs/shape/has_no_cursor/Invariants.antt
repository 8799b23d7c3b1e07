-- No cursor so far is set.
use Rattle.std.proofs.Common.{◌≡◌, ℕ, ◌<◌, not, true}
use Rattle.life_state.specs.Facts.{is_set}
use Rattle.life_state.specs.Seen.{seen}
use Rattle.life_check.proofs.shape.has_no_cursor.Given as goal

abbrev pub invariant-loop-c : goal.invariant-loop-c
invariant-loop-c l = (k : ℕ) → k < l.c → not (is_set ((seen l.state).cursors k)) ≡ true
