use Rattle.std.proofs.Common.{◌≡◌, ℕ, refl, ap, ◌∙◌, arith}
use Rattle.life_state.specs.Seen.{seen}
use Rattle.life_cert.specs.StateSums.{brigade_number, sum_below}
use Rattle.life_cert.proofs.SumLaws.{sum_more}
use Rattle.life_cert.proofs.state_sum.with_brigades.Goals as goal

pub loop-b-init : goal.loop-b-init
unfolding sum_below
loop-b-init c = refl

pub loop-b-preserved : goal.loop-b-preserved
loop-b-preserved c =
    c.summed-sum.ensures ∙ sum_more c.loop-b.b (λ k. brigade_number ((seen c.args.state.now).brigades k)) c.args.start c.loop-b.sum c.brigade_number.result c.loop-b.invariant
    (c.brigade_number.ensures ∙ ap brigade_number c.brigade.ensures)

pub returns : goal.returns
returns c =
    let all : c.loop-b.b ≡ 9 = omega arith in
    c.loop-b.invariant ∙ ap (λ (n : ℕ). sum_below n (λ k. brigade_number ((seen c.args.state.now).brigades k)) c.args.start) all
