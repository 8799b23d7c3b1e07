-- The others are forgotten, and then the cursor is written.
use Rattle.std.proofs.Common.{◌≡◌, ◌<◌, ℕ, length, slice_index_or, slice_set, ap, arith, ◌∙◌}
use Rattle.run_model.specs.Indexed.{upd}
use Rattle.life_state.specs.declared.parts.CursorState.TheVariants as cursor
use Rattle.life_state.specs.States.{CursorKnown}
use Rattle.life_state.specs.Facts.{moved}
use Rattle.life_state.specs.Seen.{seen, seen_cursor}
use Rattle.life_state.proofs.Arrays.{read_set_at}
use Rattle.life_state.proofs.state.State.move_bucket.Goals as goal

pub returns : goal.returns
unfolding moved
returns c =
    let inside : c.args.c < length c.cursors_after-cursors.result = omega arith in
    let changed : seen c.change_cursors.new.self ≡ moved (λ i. seen_cursor
    (slice_index_or (slice_set c.cursors_after-cursors.result c.from.result c.args.cursor) i cursor.Unset)) (seen c.args.self) = c.change_cursors.ensures in
    changed
    ∙ ap (λ (f : ℕ → CursorKnown). moved f (seen c.args.self))
    (read_set_at seen_cursor cursor.Unset c.cursors_after-cursors.result c.args.c c.from.result c.args.cursor c.from.ensures inside
    ∙ ap (λ (g : ℕ → CursorKnown). upd g c.args.c (seen_cursor c.args.cursor)) c.cursors_after-cursors.ensures)
