-- Laws of the rounds.
use Rattle.std.specs.Prelude.{◌≡◌, ℕ, suc, Bool, true, false, nat_le, ◌⊎◌, [], All, Option, Some, None}
use Rattle.module_code.specs.Program.{Program, IsModule}
use Rattle.life_state.specs.States.{State}
use Rattle.life_state.specs.Order.{leq}
use Rattle.life_state.specs.FormLaws.{IsFormedIn}
use Rattle.life_check.specs.Typed.{is_below}
use Rattle.life_cert.specs.declared.fixpoint.StatePlace.{StatePlace}
use Rattle.life_cert.specs.declared.fixpoint.StatePlace.TheVariants as place
use Rattle.life_cert.specs.Rounds.{state_at, handed_by, begun, rounds, enough, made}

-- a state stays, or one above it comes in its place
abbrev pub HasGrown : Option State → Option State → Type 0
HasGrown None t = Unit {0}
HasGrown (Some s) None = ⊥
HasGrown (Some s) (Some t) = (s ≡ t) ⊎ (leq s t ≡ true)

-- Each round leaves each place with what it had, or with a state above that.
abbrev pub StatesOnlyGrow : Type 0
StatesOnlyGrow = (p : Program) → IsModule p → (n : ℕ) (w : StatePlace) → HasGrown (state_at (rounds n p (begun p)).states w) (state_at (rounds (suc n) p (begun p)).states w)

-- After so many rounds no state has grown in the last one.
abbrev pub RoundsEnd : Type 0
RoundsEnd = (p : Program) → IsModule p → (rounds (enough p) p (begun p)).changed ≡ []

abbrev pub is_in_main : Program → StatePlace → Bool
is_in_main p place.Idle = false
is_in_main p place.Ready = false
is_in_main p (place.At pc) = nat_le p.main pc

-- Each state is in form and of the module's variables, and `in` stands in those of `main` alone.
abbrev pub StatesAreFormed : Type 0
StatesAreFormed = (p : Program) → IsModule p → (n : ℕ) (w : StatePlace) (s : State) → state_at (rounds n p (begun p)).states w ≡ Some s → IsFormedIn p (is_in_main p w) s

-- What each place hands on is below what stands where it arrives.
abbrev pub StatesAreClosed : Type 0
StatesAreClosed = (p : Program) → IsModule p → (w : StatePlace) → All (λ a. is_below a.state (state_at (made p) a.place) ≡ true) (handed_by p w (state_at (made p) w))
