-- Rules, joins, and where calls begin and end lead from states in form to such states, of the same variables.
use Rattle.std.specs.Prelude.{◌≡◌, Bool, true, false, not, length, IfSome, Ok}
use Rattle.module_code.specs.declared.instr.Instr.{Instr}
use Rattle.module_code.specs.Program.{Program, IsModule, fits}
use Rattle.life_state.specs.States.{State}
use Rattle.life_state.specs.Order.{leq, join}
use Rattle.life_state.specs.Rules.{Edges, rule, at_open, at_main, at_return, at_end_of_request}
use Rattle.life_state.specs.Form.{IsFormed}

-- A state in form, of a module's variables. call: whether `in` was brought.
pub record IsFormedIn (p : Program) (call : Bool) (s : State) : Type 0 where
  pub formed : IsFormed s
  pub pools : s.pool_count ≡ length p.pools
  pub brigades : s.brigade_count ≡ length p.brigades
  pub brought : not (s.brigades 8).null ≡ call

-- of an instruction whose operands are those of the module
abbrev pub RulesKeepForm : Type 0
RulesKeepForm =
    (p : Program) (call : Bool) (i : Instr) (s : State) (e : Edges) → IsModule p → fits p i ≡ true → IsFormedIn p call s → rule p i s ≡ Ok e
    → IfSome e.next (IsFormedIn p call) × IfSome e.jump (IsFormedIn p call)

abbrev pub JoinsKeepForm : Type 0
JoinsKeepForm = (p : Program) (call : Bool) (a b : State) → IsFormedIn p call a → IsFormedIn p call b → IsFormedIn p call (join a b)

-- a state that is joined with one below it stays as it is
abbrev pub JoinsAbsorb : Type 0
JoinsAbsorb = (p : Program) (call : Bool) (a b : State) → IsFormedIn p call a → IsFormedIn p call b → leq b a ≡ true → join a b ≡ a

-- where handlers begin and end, and where a request ends
pub record EntriesAreFormed : Type 0 where
  pub opens : (p : Program) → IsModule p → IsFormedIn p false (at_open (length p.pools) (length p.brigades))
  pub serves : (p : Program) (call : Bool) (s : State) → IsFormedIn p call s → IsFormedIn p true (at_main s)
  pub returns : (p : Program) (call : Bool) (s : State) → IsFormedIn p call s → IsFormedIn p false (at_return s)
  pub ends : (p : Program) (call : Bool) (s : State) → IsModule p → IsFormedIn p call s → IsFormedIn p call (at_end_of_request p s)
