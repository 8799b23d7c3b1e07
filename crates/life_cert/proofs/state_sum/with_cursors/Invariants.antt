use Rattle.std.proofs.Common.{◌≡◌}
use Rattle.life_state.specs.Seen.{seen}
use Rattle.life_cert.specs.StateSums.{cursor_number, sum_below}
use Rattle.life_cert.proofs.state_sum.with_cursors.Given as goal

abbrev pub invariant-loop-c : goal.invariant-loop-c
invariant-loop-c l = l.sum ≡ sum_below l.c (λ k. cursor_number ((seen l.state).cursors k)) l.start
