-- The new cursor differs from the one that it follows.
use Rattle.std.proofs.Common.{◌==◌, ap, sym, ◌∙◌}
use Rattle.life_state.specs.declared.parts.CursorState.{CursorState}
use Rattle.life_state.specs.States.{CursorKnown}
use Rattle.life_state.specs.Facts.{set_cursor}
use Rattle.life_state.specs.Rules.{bucket_or_end, after_next}
use Rattle.life_state.specs.Seen.{seen, seen_cursor}
use Rattle.life_state.proofs.state.State.next.Goals as goal

pub returns-in-In : goal.returns-in-In
returns-in-In c =
    let s = seen c.args.self in
    c.set_cursor.ensures
    ∙ (ap (λ (v : CursorKnown). set_cursor c.args.d v (λ k. k == c.args.c) s) (c.bucket_or_end.ensures ∙ ap (bucket_or_end c.in-In.b) c.content.ensures)
    ∙ sym (ap (λ (v : CursorState). after_next c.args.d c.args.c (seen_cursor v) s) c.in-In.is))
