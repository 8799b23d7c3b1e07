-- A certificate of a module. idle: between calls, while no request is open. ready: between calls in a request. at: before each
-- instruction. lines: how many entries the certificate has; from there on none is meant to be.
use Rattle.std.specs.Prelude.{ℕ, Option, Some, None, IfSome}
use Rattle.life_state.specs.Bounded.{IsBounded}
use Rattle.life_state.specs.Form.{IsFormed}
use Rattle.life_state.specs.States.{State}

pub record Certificate : Type 0 where
  pub idle : Option State
  pub ready : Option State
  pub at : ℕ → Option State
  pub lines : ℕ

abbrev pub IsBoundedSome : Option State → Type 0
IsBoundedSome None = Unit {0}
IsBoundedSome (Some s) = IsBounded s

-- Each state says that nothing is there beyond the variables and cursors that there are. (Those of the code do.)
pub record AllBounded (c : Certificate) : Type 0 where
  pub idle : IsBoundedSome c.idle
  pub ready : IsBoundedSome c.ready
  pub at : (pc : ℕ) → IsBoundedSome (c.at pc)

-- Each state is in form.
pub record AreFormed (c : Certificate) : Type 0 where
  pub idle : IfSome c.idle IsFormed
  pub ready : IfSome c.ready IsFormed
  pub at : (pc : ℕ) → IfSome (c.at pc) IsFormed
