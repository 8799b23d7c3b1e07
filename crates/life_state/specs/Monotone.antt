-- The rules are monotone: of two states of which one is below the other, the smaller one refuses less and leads to smaller states.
use Rattle.std.specs.Prelude.{◌≡◌, Bool, true, false, Option, Some, None, Ok}
use Rattle.module_code.specs.declared.instr.Instr.{Instr}
use Rattle.module_code.specs.Program.{Program}
use Rattle.life_state.specs.States.{State}
use Rattle.life_state.specs.Order.{leq}
use Rattle.life_state.specs.Rules.{Edges, rule, at_main, at_return, at_end_of_request}
use Rattle.life_state.specs.Form.{IsFormed}

-- an edge that can be taken can be taken there too, and leads to a state below that one
abbrev pub edge_leq : Option State → Option State → Bool
edge_leq None t = true
edge_leq (Some s) None = false
edge_leq (Some s) (Some t) = leq s t

-- the edges of a rule that does not refuse
pub record LeadsBelow (p : Program) (i : Instr) (s : State) (e : Edges) : Type 0 where
  pub edges : Edges
  pub safe : rule p i s ≡ Ok edges
  pub next : edge_leq edges.next e.next ≡ true
  pub jump : edge_leq edges.jump e.jump ≡ true

abbrev pub RulesAreMonotone : Type 0
RulesAreMonotone = (p : Program) (i : Instr) (s t : State) (e : Edges) → IsFormed s → IsFormed t → leq s t ≡ true → rule p i t ≡ Ok e → LeadsBelow p i s e

-- so is what lies between handlers
pub record EntriesAreMonotone : Type 0 where
  pub serves : (s t : State) → IsFormed s → IsFormed t → leq s t ≡ true → leq (at_main s) (at_main t) ≡ true
  pub returns : (s t : State) → IsFormed s → IsFormed t → leq s t ≡ true → leq (at_return s) (at_return t) ≡ true
  pub ends : (p : Program) (s t : State) → IsFormed s → IsFormed t → leq s t ≡ true → leq (at_end_of_request p s) (at_end_of_request p t) ≡ true
