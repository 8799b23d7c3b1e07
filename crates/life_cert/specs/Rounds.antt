-- How the states of a certificate grow, from none, in rounds over all instructions at once.
use Rattle.std.specs.Prelude.{ℕ, zero, suc, ◌+◌, ◌*◌, nat_lt, if◌then◌else◌, List, [], ◌∷◌, ◌++◌, length, Option, Some, None, Result, Ok, Err, slice_get, unwrap_or}
use Rattle.module_code.specs.declared.instr.Instr.{Instr}
use Rattle.module_code.specs.declared.instr.Instr.TheVariants as instr
use Rattle.module_code.specs.Program.{Program, target}
use Rattle.run_model.specs.declared.fault.FaultKind.{FaultKind}
use Rattle.run_model.specs.Indexed.{upd}
use Rattle.life_state.specs.States.{State}
use Rattle.life_state.specs.Order.{leq, join}
use Rattle.life_state.specs.Rules.{Edges, rule, at_open, at_main, at_return, at_end_of_request}
use Rattle.life_check.specs.Certificates.{Certificate}
use Rattle.life_cert.specs.declared.fixpoint.StatePlace.{StatePlace}
use Rattle.life_cert.specs.declared.fixpoint.StatePlace.TheVariants as place

-- a state that is handed on to a place: `idle`, `ready`, or an instruction
pub record Arrival : Type 0 where
  pub place : StatePlace
  pub state : State

-- the states so far, and the places whose states grew in the last round
pub record FixpointState : Type 0 where
  pub states : Certificate
  pub changed : List StatePlace

-- The state of a place.

abbrev pub state_at : Certificate → StatePlace → Option State
state_at c place.Idle = c.idle
state_at c place.Ready = c.ready
state_at c (place.At pc) = c.at pc

abbrev pub with_state : StatePlace → State → Certificate → Certificate
with_state place.Idle s c = record c { idle = Some s }
with_state place.Ready s c = record c { ready = Some s }
with_state (place.At pc) s c = record c { at = upd c.at pc (Some s) }

-- What is handed on.

abbrev pub arriving : StatePlace → Option State → List Arrival
arriving w None = []
arriving w (Some s) = record { place = w; state = s } ∷ []

-- where the calls of the instruction's handler leave their state
abbrev pub left_place : Program → ℕ → StatePlace
left_place p pc = if nat_lt pc p.init then place.Idle else place.Ready

abbrev pub returned : Instr → State → Option State
returned (instr.Ret t) s = Some (at_return s)
returned _ s = None

abbrev pub edges_arriving : ℕ → Instr → Edges → List Arrival
edges_arriving pc i e = arriving (place.At (pc + 1)) e.next ++ arriving (place.At (unwrap_or (target i) 0)) e.jump

-- by what the rule answers: the states on the edges, and what a return leaves; one that refuses hands on nothing
abbrev pub handed_by_rule : Program → ℕ → Instr → State → Result Edges FaultKind → List Arrival
handed_by_rule p pc i s (Err k) = []
handed_by_rule p pc i s (Ok e) = edges_arriving pc i e ++ arriving (left_place p pc) (returned i s)

abbrev pub handed_by_line : Program → ℕ → Option Instr → State → List Arrival
handed_by_line p pc None s = []
handed_by_line p pc (Some i) s = handed_by_rule p pc i s (rule p i s)

-- `idle` begins `init`; `ready` begins `main`, and becomes `idle` where the request ends
abbrev pub handed_by : Program → StatePlace → Option State → List Arrival
handed_by p w None = []
handed_by p place.Idle (Some s) = arriving (place.At p.init) (Some s)
handed_by p place.Ready (Some s) = arriving (place.At p.main) (Some (at_main s)) ++ arriving place.Idle (Some (at_end_of_request p s))
handed_by p (place.At pc) (Some s) = handed_by_line p pc (slice_get p.code pc) s

unfoldable pub handed_on : Program → Certificate → List StatePlace → List Arrival
handed_on p c [] = []
handed_on p c (w ∷ ws) = handed_by p w (state_at c w) ++ handed_on p c ws

-- What arrives.

abbrev pub grow : StatePlace → State → FixpointState → FixpointState
grow w s g = record { states = with_state w s g.states; changed = g.changed ++ w ∷ [] }

-- the state that is there grows, where it does not already stand above
abbrev pub merge_by : Option State → Arrival → FixpointState → FixpointState
merge_by None a g = grow a.place a.state g
merge_by (Some t) a g = if leq a.state t then g else grow a.place (join t a.state) g

abbrev pub merge : Arrival → FixpointState → FixpointState
merge a g = merge_by (state_at g.states a.place) a g

unfoldable pub arrived : List Arrival → FixpointState → FixpointState
arrived [] g = g
arrived (a ∷ rest) g = arrived rest (merge a g)

-- Rounds.

-- each place whose state grew in the last round hands on what it leads to, all at once
abbrev pub round : Program → FixpointState → FixpointState
round p g = arrived (handed_on p g.states g.changed) (record { states = g.states; changed = [] })

unfoldable pub rounds : ℕ → Program → FixpointState → FixpointState
rounds zero p g = g
rounds (suc n) p g = round p (rounds n p g)

abbrev pub nothing : Program → Certificate
nothing p = record { idle = None; ready = None; at = λ pc. None; lines = length p.code }

-- `open` begins
abbrev pub begun : Program → FixpointState
begun p = grow (place.At 0) (at_open (length p.pools) (length p.brigades)) (record { states = nothing p; changed = [] })

-- so many rounds that none can follow in which a state grows: no state grows more than 511 times
unfoldable pub enough : Program → ℕ
enough p = 512 * (length p.code + 2)

unfoldable pub made : Program → Certificate
made p = (rounds (enough p) p (begun p)).states
