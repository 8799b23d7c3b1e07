-- A host on a chain that was checked: no call answers a fault, and no connection is broken by one.
use Rattle.std.specs.Prelude.{◌≡◌, ◌≢◌, ℕ, List, Some, Result}
use Rattle.module_code.specs.Program.{Program}
use Rattle.run_model.specs.declared.event.Cause.TheVariants as cause
use Rattle.run_model.specs.declared.event.Event.{Event}
use Rattle.run_model.specs.declared.event.Refusal.{Refusal}
use Rattle.run_model.specs.declared.event.Refusal.TheVariants as refusal
use Rattle.run_model.specs.declared.event.Stepped.{Stepped}
use Rattle.run_model.specs.Chains.{Connection}
use Rattle.run_model.specs.Worlds.{World, Answer, Refused}
use Rattle.model_laws.specs.Reached.{IsReached}
use Rattle.life_check.specs.ChainTheorem.{ChainNeverFaults, IsNoFault}
use Rattle.module_run.specs.Stepping.{NextIsFaultless}
use Rattle.filter_chain.specs.Hosting.{Ghosts, Host, Stored, chain_of, step_answer}
use Rattle.filter_chain.specs.HostViews.{HostView, Answers}

-- On its chain no run of the model answers a fault, however many connections there are.
abbrev pub IsSafe : {F R : Type 0} {g : Ghosts R Stored} → Host F R g → Type 0
IsSafe host = ChainNeverFaults (chain_of host)

-- This is no fault.
abbrev pub GoesWell : Result Stepped Refusal → Type 0
GoesWell answer = IsNoFault (step_answer answer)

-- Where some events lead to a world, none answers a fault there.
abbrev pub ReachedWorldsAnswerNoFault : Type 0
ReachedWorldsAnswerNoFault = (budget : ℕ) (chain : List Program) (number : ℕ) (what : Event) (old new : HostView) (answer : _) → ChainNeverFaults chain → IsReached budget chain old.world
    → Answers budget chain number what old answer new → IsNoFault answer

-- There the next instruction of a call that is to be stepped has no fault.
abbrev pub ReachedCallsAreFaultless : Type 0
ReachedCallsAreFaultless = (budget : ℕ) (chain : List Program) (w : World) (number : ℕ) (c : Connection) → ChainNeverFaults chain → IsReached budget chain w
    → w.conns number ≡ Some c → NextIsFaultless budget chain (w.common, c)

-- There no connection is broken by a fault.
abbrev pub ReachedConnectionsAreUnfaulted : Type 0
ReachedConnectionsAreUnfaulted = (budget : ℕ) (chain : List Program) (w : World) (number : ℕ) (c : Connection) → ChainNeverFaults chain → IsReached budget chain w
    → w.conns number ≡ Some c → c.broken ≢ Some cause.Faulted

-- This is not refused for a fault that broke the connection.
abbrev pub IsUnfaulted : Answer → Type 0
IsUnfaulted answer = answer ≢ Refused (refusal.Broken cause.Faulted)

-- Where an event leads to a world that some events lead to, it was not refused for a fault.
abbrev pub ReachedWorldsAnswerUnfaulted : Type 0
ReachedWorldsAnswerUnfaulted = (budget : ℕ) (chain : List Program) (number : ℕ) (what : Event) (old new : HostView) (answer : Answer) → ChainNeverFaults chain → IsReached budget chain new.world
    → Answers budget chain number what old answer new → IsUnfaulted answer
