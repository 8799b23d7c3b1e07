-- Counts and brought brigades of each connection with a chain, in every run.
use Rattle.std.specs.Prelude.{◌≡◌, ℕ, ◌≤◌, Bool, false, ◌||◌, ◌==◌, List, [], ◌∷◌, Some}
use Rattle.module_code.specs.Program.{Program}
use Rattle.run_model.specs.declared.bucket.BrigadeVar.TheVariants as var
use Rattle.run_model.specs.declared.event.Event.{Event}
use Rattle.run_model.specs.Chains.{Frame, Connection, IsChain}
use Rattle.run_model.specs.Worlds.{World, Told, Answer, happens, IsWholeRun}

-- whether a call of the module k runs or waits
unfoldable pub has_call : List Frame → ℕ → Bool
has_call [] k = false
has_call (f ∷ fs) k = (f.of == k) || has_call fs k

-- nothing_brought: a module of which no call runs or waits has no brigade in `in`. spent: no more instructions were executed than the
-- budget gives.
pub record ChainOrder (budget : ℕ) (c : Connection) : Type 0 where
  pub nothing_brought : (k : ℕ) → has_call c.stack k ≡ false → (c.instances k).brigades 8 ≡ var.Null
  pub spent : c.count ≤ budget

abbrev pub WorldOrder : ℕ → World → Type 0
WorldOrder budget w = (k : ℕ) (c : Connection) → w.conns k ≡ Some c → ChainOrder budget c

-- Each event keeps it, and so it is true of each world that a run reaches.
abbrev pub EventKeepsWorldOrder : Type 0
EventKeepsWorldOrder = (memory : Bool) (budget : ℕ) (chain : List Program) (told : Told) (k : ℕ) (e : Event) (w : World) → IsChain chain
    → WorldOrder budget w → WorldOrder budget (happens memory budget chain told k e w).1

abbrev pub RunKeepsWorldOrder : Type 0
RunKeepsWorldOrder = (budget : ℕ) (chain : List Program) (es : List (ℕ × Event)) (answers : List Answer) (w : World) → IsChain chain → IsWholeRun budget chain es answers w → WorldOrder budget w
