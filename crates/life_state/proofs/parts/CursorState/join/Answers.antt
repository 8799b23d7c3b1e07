-- Two loose buckets: classes and homes are joined.
use Rattle.std.proofs.Common.{ap, sym, ◌∙◌}
use Rattle.life_state.specs.declared.parts.Classes.{Classes}
use Rattle.life_state.specs.declared.parts.CursorState.{CursorState}
use Rattle.life_state.specs.declared.parts.CursorState.TheVariants as cursor
use Rattle.life_state.specs.States.{Homes, Loose}
use Rattle.life_state.specs.Order.{classes_join, cursor_join}
use Rattle.life_state.specs.Seen.{seen_cursor, seen_homes}
use Rattle.life_state.proofs.parts.CursorState.join.Goals as goal

pub returns-in-Loose-Loose : goal.returns-in-Loose-Loose
unfolding cursor_join
returns-in-Loose-Loose c =
    let here = c.in-Loose-Loose in
    ap (λ (s : Classes). Loose s (seen_homes c.join-in-Loose-Loose.result)) c.join.ensures
    ∙ (ap (λ (h : Homes). Loose (classes_join here.s here.t) h) c.join-in-Loose-Loose.ensures
    ∙ sym (ap (λ (a : CursorState). cursor_join (seen_cursor a) (seen_cursor c.args.other.now)) here.is-0
    ∙ ap (λ (b : CursorState). cursor_join (seen_cursor (cursor.Loose here.s here.h)) (seen_cursor b)) here.is-1))
