-- The order of certificates of one module.
use Rattle.std.specs.Prelude.{◌≡◌, true, Some}
use Rattle.life_state.specs.States.{State}
use Rattle.life_check.specs.Certificates.{Certificate}
use Rattle.life_check.specs.Typed.{is_below}
use Rattle.life_cert.specs.declared.fixpoint.StatePlace.{StatePlace}
use Rattle.life_cert.specs.Rounds.{state_at}

-- where the first has a state, the second has one that is above it
abbrev pub IsBelow : Certificate → Certificate → Type 0
IsBelow a b = (w : StatePlace) (s : State) → state_at a w ≡ Some s → is_below s (state_at b w) ≡ true
