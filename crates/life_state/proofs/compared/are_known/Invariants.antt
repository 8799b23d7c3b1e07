-- What is said so far is known.
use Rattle.std.proofs.Common.{◌≡◌, ℕ, ◌<◌, true}
use Rattle.life_state.specs.Facts.{known}
use Rattle.life_state.specs.Order.{implies}
use Rattle.life_state.specs.Seen.{seen}
use Rattle.life_state.proofs.compared.are_known.Given as goal

abbrev pub invariant-loop-d : goal.invariant-loop-d
invariant-loop-d l = (k : ℕ) → k < l.d → implies ((seen l.b).facts l.c k) (known (seen l.a) l.c k) ≡ true
