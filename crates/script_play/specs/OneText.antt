-- One text for one script: any two texts that may be written for it are the same, up to a line that says that memory was refused.
use Rattle.std.specs.Prelude.{◌≡◌, ◌⊎◌, ℕ, true, List, ◌++◌}
use Rattle.run_model.specs.declared.event.Refusal.{Refusal}
use Rattle.run_laws.specs.KnownFiles.{is_no_memory}
use Rattle.script_text.specs.Replies.{refused_line}
use Rattle.module_commands.specs.declared.ended.Ended.{Ended}
use Rattle.script_play.specs.Written.{IsWhole, IsWrittenFor}

-- The first line is `refused NoMemory`, or `refused Broken(NoMemory)` on a connection that a step broke so.
pub record BeginsWithNoMemory (text : List ℕ) : Type 0 where
  pub why : Refusal
  pub rest : List ℕ
  pub memory : is_no_memory why ≡ true
  pub begins : text ≡ refused_line why ++ rest

-- Two texts have the same first lines, and the next line of one of them is such a line.
pub record PartsAtNoMemory (text other : List ℕ) : Type 0 where
  pub same : List ℕ
  pub left : List ℕ
  pub right : List ℕ
  pub lines : IsWhole same
  pub one : text ≡ same ++ left
  pub two : other ≡ same ++ right
  pub parts : BeginsWithNoMemory left ⊎ BeginsWithNoMemory right

-- They are the same, and end alike, or they part so.
abbrev pub AgreesUpToNoMemory : List ℕ → Ended → List ℕ → Ended → Type 0
AgreesUpToNoMemory text e other f = ((text ≡ other) × (e ≡ f)) ⊎ PartsAtNoMemory text other

-- Whatever else may be written for the script agrees with this text. So where neither has such a line, they are one text.
abbrev pub IsOnlyTextFor : List ℕ → List ℕ → Ended → Type 0
IsOnlyTextFor script text e = (other : List ℕ) (f : Ended) → IsWrittenFor script other f → AgreesUpToNoMemory text e other f
