use Rattle.std.proofs.Common.{◌≡◌, ℕ, refl, ap, ◌∙◌, arith}
use Rattle.life_state.specs.Seen.{seen}
use Rattle.life_cert.specs.StateSums.{pool_number, sum_below}
use Rattle.life_cert.proofs.SumLaws.{sum_more}
use Rattle.life_cert.proofs.state_sum.with_pools.Goals as goal

pub loop-q-init : goal.loop-q-init
unfolding sum_below
loop-q-init c = refl

pub loop-q-preserved : goal.loop-q-preserved
loop-q-preserved c =
    c.summed-sum.ensures ∙ sum_more c.loop-q.q (λ k. pool_number ((seen c.args.state.now).pools k)) c.args.start c.loop-q.sum c.pool_number.result c.loop-q.invariant
    (c.pool_number.ensures ∙ ap pool_number c.pool.ensures)

pub returns : goal.returns
returns c =
    let all : c.loop-q.q ≡ 8 = omega arith in
    c.loop-q.invariant ∙ ap (λ (n : ℕ). sum_below n (λ k. pool_number ((seen c.args.state.now).pools k)) c.args.start) all
