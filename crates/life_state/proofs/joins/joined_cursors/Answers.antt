-- One of each; beyond the last there is none.
use Rattle.std.proofs.Common.{◌≡◌, ℕ, length, ap, ap₂, sym, ◌∙◌, length-set, arith}
use Rattle.life_state.specs.declared.parts.CursorState.TheVariants as cursor
use Rattle.life_state.specs.States.{CursorKnown}
use Rattle.life_state.specs.Order.{cursor_join, kept_cursor}
use Rattle.life_state.specs.Seen.{seen, seen_brigades, seen_cursor}
use Rattle.life_state.proofs.Arrays.{one_more, read_as}
use Rattle.life_state.proofs.JoinLaws.{joined_cursors_past}
use Rattle.life_state.proofs.joins.joined_cursors.Goals as goal

pub loop-c-preserved : goal.loop-c-preserved
loop-c-preserved c =
    let brigades = seen_brigades c.args.brigades.now in
    let joined : ℕ → CursorKnown = λ i. kept_cursor brigades (cursor_join ((seen c.args.a.now).cursors i) ((seen c.args.b.now).cursors i)) in
    let here : seen_cursor c.kept.result ≡ joined c.loop-c.c =
    c.kept.ensures ∙ ap (kept_cursor brigades) (c.join.ensures ∙ ap₂ cursor_join c.cursor.ensures c.cursor-in-loop-c.ensures) in (
      omega (arith, length-set c.loop-c.cursors c.from.result c.kept.result),
      one_more (λ i v. seen_cursor v ≡ joined i) cursor.Unset c.loop-c.cursors c.loop-c.c c.from.result c.kept.result c.from.ensures (omega arith) here c.loop-c.invariant.1,
    )

pub returns : goal.returns
returns c =
    let a = c.args.a.now in
    let b = c.args.b.now in
    let brigades = seen_brigades c.args.brigades.now in
    let first : length a.cursors ≡ 9 = omega arith in
    let second : length b.cursors ≡ 9 = omega arith in
    read_as seen_cursor cursor.Unset 9 c.loop-c.cursors (λ i. kept_cursor brigades (cursor_join ((seen a).cursors i) ((seen b).cursors i))) c.loop-c.invariant.0
    (λ i below. c.loop-c.invariant.1 i (omega arith)) (λ i past. sym (joined_cursors_past brigades a b i (omega arith) (omega arith)))
