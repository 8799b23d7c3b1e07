use Rattle.std.proofs.Common.{◌≡◌, ℕ, refl, ap, ◌∙◌, arith}
use Rattle.life_state.specs.Seen.{seen}
use Rattle.life_cert.specs.StateSums.{cursor_number, sum_below}
use Rattle.life_cert.proofs.SumLaws.{sum_more}
use Rattle.life_cert.proofs.state_sum.with_cursors.Goals as goal

pub loop-c-init : goal.loop-c-init
unfolding sum_below
loop-c-init c = refl

pub loop-c-preserved : goal.loop-c-preserved
loop-c-preserved c =
    c.summed-sum.ensures ∙ sum_more c.loop-c.c (λ k. cursor_number ((seen c.args.state.now).cursors k)) c.args.start c.loop-c.sum c.cursor_number.result c.loop-c.invariant
    (c.cursor_number.ensures ∙ ap cursor_number c.cursor.ensures)

pub returns : goal.returns
returns c =
    let all : c.loop-c.c ≡ 9 = omega arith in
    c.loop-c.invariant ∙ ap (λ (n : ℕ). sum_below n (λ k. cursor_number ((seen c.args.state.now).cursors k)) c.args.start) all
