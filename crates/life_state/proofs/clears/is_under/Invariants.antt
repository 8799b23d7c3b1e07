-- What is left of the looks tells what all of them do.
use Rattle.std.proofs.Common.{◌≡◌, ◌-◌}
use Rattle.life_state.specs.PoolOrder.{under_within}
use Rattle.life_state.proofs.clears.is_under.Given as goal

abbrev pub invariant-loop : goal.invariant-loop
invariant-loop l = under_within (10 - l.counter) l.code l.top l.at ≡ under_within 10 l.code l.top l.fn.low
