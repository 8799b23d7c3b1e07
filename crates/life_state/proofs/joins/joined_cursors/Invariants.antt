-- The cursors so far are joined.
use Rattle.std.proofs.Common.{◌≡◌, ℕ, ◌<◌, length}
use Rattle.life_state.specs.Order.{cursor_join, kept_cursor}
use Rattle.life_state.specs.Seen.{seen, seen_brigades, seen_cursors}
use Rattle.life_state.proofs.joins.joined_cursors.Given as goal

abbrev pub invariant-loop-c : goal.invariant-loop-c
invariant-loop-c l =
    (length l.cursors ≡ 9)
    × ((i : ℕ) → i < l.c → seen_cursors l.cursors i ≡ kept_cursor (seen_brigades l.brigades) (cursor_join ((seen l.a).cursors i) ((seen l.b).cursors i)))
