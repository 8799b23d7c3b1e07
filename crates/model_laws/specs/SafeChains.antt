-- When no run of a chain answers a fault; and that it answers none where each of its modules is safe.
use Rattle.std.specs.Prelude.{ℕ, List, [], ◌∷◌, All}
use Rattle.module_code.specs.Program.{Program}
use Rattle.run_model.specs.declared.event.Event.{Event}
use Rattle.run_model.specs.declared.event.Stepped.TheVariants as stepped
use Rattle.run_model.specs.Chains.{IsChain}
use Rattle.run_model.specs.Worlds.{World, Answer, Done, Refused, Connected, Step, Output, Opened, Labels, Tree, IsWholeRun}
use Rattle.model_laws.specs.OpenRuns.{InstancesAreSafe}

abbrev pub IsNoFault : Answer → Type 0
IsNoFault Done = Unit {0}
IsNoFault (Refused r) = Unit {0}
IsNoFault (Connected k) = Unit {0}
IsNoFault (Step stepped.Went) = Unit {0}
IsNoFault (Step (stepped.CallEnded s)) = Unit {0}
IsNoFault (Step (stepped.Fault k m pc)) = ⊥
IsNoFault (Output bytes) = Unit {0}
IsNoFault (Opened file len) = Unit {0}
IsNoFault (Labels texts) = Unit {0}
IsNoFault (Tree root pools) = Unit {0}

unfoldable pub NoFaults : List Answer → Type 0
NoFaults [] = Unit {0}
NoFaults (a ∷ answers) = IsNoFault a × NoFaults answers

-- Whatever happens, on however many connections of this chain and in whatever order, from a new world on, whatever its first name
-- is, with any budget and want of memory, and whatever each opening and each read tells, no step answers a fault.
abbrev pub ChainNeverFaults : List Program → Type 0
ChainNeverFaults chain = (budget : ℕ) (es : List (ℕ × Event)) (answers : List Answer) (w : World) → IsWholeRun budget chain es answers w → NoFaults answers

-- A chain of safe modules is safe, however it was shown of each.
abbrev pub SafeModulesMakeSafeChains : Type 0
SafeModulesMakeSafeChains = (chain : List Program) → IsChain chain → All InstancesAreSafe chain → ChainNeverFaults chain
