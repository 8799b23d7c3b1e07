-- What is true of the states of a module while they grow.
use Rattle.std.specs.Prelude.{◌≡◌, ◌≤◌, ℕ, Bool, true, nat_lt, length, All, Some}
use Rattle.module_code.specs.Program.{Program}
use Rattle.life_state.specs.States.{State}
use Rattle.life_cert.specs.declared.fixpoint.StatePlace.{StatePlace}
use Rattle.life_cert.specs.declared.fixpoint.StatePlace.TheVariants as place
use Rattle.life_cert.specs.Rounds.{Arrival, FixpointState, state_at}

-- a place of a module with so many instructions
abbrev pub is_inside : ℕ → StatePlace → Bool
is_inside n place.Idle = true
is_inside n place.Ready = true
is_inside n (place.At pc) = nat_lt pc n

-- a state of the module's variables
pub record IsDeclared (p : Program) (s : State) : Type 0 where
  pub pools : s.pool_count ≡ length p.pools
  pub brigades : s.brigade_count ≡ length p.brigades

-- such a state, at a place of the module
pub record IsFit (p : Program) (a : Arrival) : Type 0 where
  pub inside : is_inside (length p.code) a.place ≡ true
  pub declared : IsDeclared p a.state

pub record IsOf (p : Program) (g : FixpointState) : Type 0 where
  pub few : length p.pools ≤ 8
  pub lines : g.states.lines ≡ length p.code
  pub states : (w : StatePlace) (s : State) → state_at g.states w ≡ Some s → IsDeclared p s
  pub places : All (λ w. is_inside (length p.code) w ≡ true) g.changed
