use Rattle.std.proofs.Common.{◌≡◌}
use Rattle.life_state.specs.Seen.{seen}
use Rattle.life_cert.specs.StateSums.{pool_number, sum_below}
use Rattle.life_cert.proofs.state_sum.with_pools.Given as goal

abbrev pub invariant-loop-q : goal.invariant-loop-q
invariant-loop-q l = l.sum ≡ sum_below l.q (λ k. pool_number ((seen l.state).pools k)) l.start
