-- What each event keeps, and so is true of each world that a run of a chain reaches.
use Rattle.std.specs.Prelude.{◌≡◌, ℕ, Bool, List, Some}
use Rattle.module_code.specs.Program.{Program}
use Rattle.run_model.specs.declared.event.Event.{Event}
use Rattle.run_model.specs.Chains.{Connection, Common, IsChain}
use Rattle.run_model.specs.Worlds.{World, Told, Answer, happens, IsWholeRun}
use Rattle.model_laws.specs.ChainSound.{WorldSound}

-- It is true of each connection of a world.
abbrev pub OfConnections : (Common → Connection → Type 0) → World → Type 0
OfConnections P w = (k : ℕ) (c : Connection) → w.conns k ≡ Some c → P w.common c

-- It is true of each world that a run reaches.
abbrev pub RunKeeps : (World → Type 0) → Type 0
RunKeeps W = (budget : ℕ) (chain : List Program) (es : List (ℕ × Event)) (answers : List Answer) (w : World) → IsChain chain → IsWholeRun budget chain es answers w → W w

-- event: each event keeps it in a world that is sound. run: so it is true of each world that a run reaches.
pub record KeptInRuns (W : World → Type 0) : Type 0 where
  pub event : (memory : Bool) (budget : ℕ) (chain : List Program) (told : Told) (k : ℕ) (e : Event) (w : World)
      → IsChain chain → WorldSound chain w → W w → W (happens memory budget chain told k e w).1
  pub run : RunKeeps W
