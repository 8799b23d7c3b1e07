-- The numbers of connections, in every run.
use Rattle.std.specs.Prelude.{◌≡◌, ℕ, ◌^◌, ◌<◌, Bool, List, None}
use Rattle.module_code.specs.Program.{Program}
use Rattle.run_model.specs.declared.event.Event.{Event}
use Rattle.run_model.specs.Worlds.{World, Told, Answer, happens, IsWholeRun}

-- first: no connection has the number 0. later: none has a number past the one that was given last. limit: numbers stay below 2^64.
pub record WorldNumbers (w : World) : Type 0 where
  pub first : w.conns 0 ≡ None
  pub later : (k : ℕ) → w.last < k → w.conns k ≡ None
  pub limit : w.last < 2 ^ 64

-- Each event keeps it, and so it is true of each world that a run reaches.
abbrev pub EventKeepsNumbers : Type 0
EventKeepsNumbers = (memory : Bool) (budget : ℕ) (chain : List Program) (told : Told) (k : ℕ) (e : Event) (w : World) → WorldNumbers w → WorldNumbers (happens memory budget chain told k e w).1

abbrev pub RunKeepsNumbers : Type 0
RunKeepsNumbers = (budget : ℕ) (chain : List Program) (es : List (ℕ × Event)) (answers : List Answer) (w : World) → IsWholeRun budget chain es answers w → WorldNumbers w
