-- What the code that plays a script writes, part by part.
use Rattle.std.specs.Prelude.{◌≡◌, ◌≢◌, ℕ, ◌+◌, false, List, [], ◌++◌, length, Option, Result, Ok, Err, ◌⊎◌}
use Rattle.std.specs.Io.KnownBytes.{Appends}
use Rattle.byte_text.specs.TextLines.{RawLine, lines_of}
use Rattle.module_commands.specs.declared.ended.Ended.{Ended}
use Rattle.module_commands.specs.declared.fault.PlayFault.{PlayFault}
use Rattle.module_commands.specs.declared.fault.PlayFault.TheVariants as fault
use Rattle.filter_chain.specs.Hosting.{Ghosts, Stored}
use Rattle.script_play.specs.declared.player.Player.{Player}
use Rattle.script_play.specs.Written.{Stage, is_over, TakesAll, IsSomeOf, EndsAt, IsWhole, HasNoLf}
use Rattle.script_play.specs.Sessions.{IsAt}

-- What lines from this number on say to their end, and how they end.
pub record IsEndFrom (number : ℕ) (ls : List RawLine) (s : Stage) (text : List ℕ) (e : Ended) : Type 0 where
  pub stage : Stage
  pub answers : List ℕ
  pub last : List ℕ
  pub takes : TakesAll number ls s answers stage
  pub ends : EndsAt stage last e
  pub written : text ≡ answers ++ last

abbrev pub IsCutOfSome : ℕ → List RawLine → Stage → List ℕ → Type 0
IsCutOfSome number ls s text = (more : List ℕ) × (more ≢ []) × IsSomeOf number ls s (text ++ more)

abbrev pub IsCutOfEnd : ℕ → List RawLine → Stage → List ℕ → Type 0
IsCutOfEnd number ls s text = (more : List ℕ) × (more ≢ []) × (IsSomeOf number ls s (text ++ more) ⊎ ((e : Ended) × IsEndFrom number ls s (text ++ more) e))

-- such a text is written
abbrev pub AddsText : Option (List ℕ) → Option (List ℕ) → (List ℕ → Type 0) → Type 0
AddsText before after P = (text : List ℕ) × P text × Appends before after text

-- These lines are taken, and what is told of them is written. They are counted up to a fault.
pub record PlaysOn {R : Type 0} {g : Ghosts R Stored} (old new : Player R g) (before after : Option (List ℕ)) (ls : List RawLine) (s : Stage) : Type 0 where
  pub told : List ℕ
  pub stage : Stage
  pub takes : TakesAll (old.lines + 1) ls s told stage
  pub at : IsAt new stage
  pub lines : is_over stage ≡ false → new.lines ≡ old.lines + length ls
  pub added : Appends before after told

module _ {R : Type 0} {g : Ghosts R Stored} (old new : Player R g) (before after : Option (List ℕ)) where
  -- Lines are played. Where that fails, what some of them say is written, or a front of it.
  abbrev pub PlaysLines : List RawLine → Stage → Result (Unit {0}) PlayFault → Type 0
  PlaysLines ls s (Ok u) = PlaysOn old new before after ls s
  PlaysLines ls s (Err fault.Read) = ⊥
  PlaysLines ls s (Err fault.Write) = AddsText before after (IsCutOfSome (old.lines + 1) ls s)
  PlaysLines ls s (Err fault.NoMemory) = AddsText before after (IsSomeOf (old.lines + 1) ls s)

  -- The same of the whole lines of these bytes; the rest, in which no line ends, is held back.
  abbrev pub PlaysBytes : List ℕ → List ℕ → Stage → Result (Unit {0}) PlayFault → Type 0
  PlaysBytes bytes held s (Ok u) = (whole : List ℕ) × IsWhole whole × (bytes ≡ whole ++ held) × PlaysOn old new before after (lines_of whole) s × HasNoLf held
  PlaysBytes bytes held s (Err fault.Read) = ⊥
  PlaysBytes bytes held s (Err fault.Write) = (whole rest : List ℕ) × IsWhole whole × (bytes ≡ whole ++ rest) × AddsText before after (IsCutOfSome (old.lines + 1) (lines_of whole) s)
  PlaysBytes bytes held s (Err fault.NoMemory) = (whole rest : List ℕ) × IsWhole whole × (bytes ≡ whole ++ rest) × AddsText before after (IsSomeOf (old.lines + 1) (lines_of whole) s)

-- The play ends, behind all lines.
abbrev pub EndsLines : Option (List ℕ) → Option (List ℕ) → Stage → Result Ended PlayFault → Type 0
EndsLines before after s (Ok e) = AddsText before after (λ text. EndsAt s text e)
EndsLines before after s (Err fault.Read) = ⊥
EndsLines before after s (Err fault.Write) = AddsText before after (λ text. (more : List ℕ) × (more ≢ []) × ((e : Ended) × EndsAt s (text ++ more) e))
EndsLines before after s (Err fault.NoMemory) = Appends before after []

-- The last lines are played, and the play ends.
abbrev pub PlaysEnd : ℕ → Option (List ℕ) → Option (List ℕ) → List RawLine → Stage → Result Ended PlayFault → Type 0
PlaysEnd number before after ls s (Ok e) = AddsText before after (λ text. IsEndFrom number ls s text e)
PlaysEnd number before after ls s (Err fault.Read) = ⊥
PlaysEnd number before after ls s (Err fault.Write) = AddsText before after (IsCutOfEnd number ls s)
PlaysEnd number before after ls s (Err fault.NoMemory) = AddsText before after (IsSomeOf number ls s)
