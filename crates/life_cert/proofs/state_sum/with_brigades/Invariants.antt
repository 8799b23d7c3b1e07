use Rattle.std.proofs.Common.{◌≡◌}
use Rattle.life_state.specs.Seen.{seen}
use Rattle.life_cert.specs.StateSums.{brigade_number, sum_below}
use Rattle.life_cert.proofs.state_sum.with_brigades.Given as goal

abbrev pub invariant-loop-b : goal.invariant-loop-b
invariant-loop-b l = l.sum ≡ sum_below l.b (λ k. brigade_number ((seen l.state).brigades k)) l.start
