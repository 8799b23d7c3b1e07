-- None so far keeps a bucket of the call.
use Rattle.std.proofs.Common.{◌≡◌, ℕ, ◌<◌, false}
use Rattle.life_state.specs.Rules.{keeps_call}
use Rattle.life_state.specs.Seen.{seen}
use Rattle.life_state.proofs.state.State.need.Given as goal

abbrev pub invariant-loop-b : goal.invariant-loop-b
invariant-loop-b l = (k : ℕ) → k < l.b → keeps_call ((seen l.self).brigades k) ≡ false
