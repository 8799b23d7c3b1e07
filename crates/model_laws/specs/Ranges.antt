-- What a step keeps in range: numbers and bytes, and what is brought of files.
use Rattle.std.specs.Prelude.{◌≡◌, ℕ, ◌+◌, ◌<◌, ◌≤◌, true, List, length, Some, All}
use Rattle.module_code.specs.declared.instr.Instr.{Instr}
use Rattle.module_code.specs.Program.{Program, IsModule, fits}
use Rattle.run_model.specs.declared.bucket.Content.{Content}
use Rattle.run_model.specs.declared.bucket.Content.TheVariants as content
use Rattle.run_model.specs.declared.bucket.Home.TheVariants as home
use Rattle.run_model.specs.declared.bucket.NamedBucket.{NamedBucket}
use Rattle.run_model.specs.declared.event.Event.{Event}
use Rattle.run_model.specs.declared.event.Event.TheVariants as event
use Rattle.run_model.specs.declared.event.Piece.{Piece}
use Rattle.run_model.specs.declared.event.Piece.TheVariants as piece
use Rattle.run_model.specs.Files.{Files}
use Rattle.run_model.specs.State.{Configuration, items_of}
use Rattle.run_model.specs.Steps.{Choice, step}
use Rattle.run_model.specs.Sound.{Sound}
use Rattle.model_laws.specs.Laws.{MayExecute, SoundFiles}
use Rattle.run_model.specs.Holding.{refers}

-- These are bytes.
abbrev pub AreBytes : List ℕ → Type 0
AreBytes bs = All (λ b. b ≤ 255) bs

-- What of a content lies in memory are bytes.
abbrev pub HoldsBytes : Content → Type 0
HoldsBytes (content.Bytes bs) = AreBytes bs
HoldsBytes (content.Range file start len) = Unit {0}
HoldsBytes content.Nothing = Unit {0}

-- Files hold bytes.
pub record FileBytes (fs : Files) : Type 0 where
  pub named : (name bytes : List ℕ) → fs.named name ≡ Some bytes → AreBytes bytes
  pub opened : (file : ℕ) (bytes : List ℕ) → fs.opened file ≡ Some bytes → AreBytes bytes

-- What is in the buffer of a call. bytes: it is of bytes. size: there are no more of them than it holds.
pub record BufferInRange (buffer : List ℕ) : Type 0 where
  pub bytes : AreBytes buffer
  pub size : length buffer ≤ 8000

-- Numbers, and what they come from. numbers: each number is below 2^32. buffer: the buffer is in range. brigades, loose, files:
-- what buckets and files hold are bytes.
pub record InRange (r : Configuration) : Type 0 where
  pub numbers : (n : ℕ) → r.instance.numbers n ≤ 4294967295
  pub buffer : BufferInRange r.call.buffer
  pub brigades : (b : ℕ) → All (λ x. HoldsBytes x.bucket.content) (items_of (r.instance.brigades b))
  pub loose : All (λ x. HoldsBytes x.bucket.content) r.call.loose
  pub files : FileBytes r.shared.files

-- What the surroundings give to a read are bytes.
abbrev pub GivesBytes : Choice → Type 0
GivesBytes choice = (bytes : List ℕ) → choice.given ≡ Some bytes → AreBytes bytes

-- A step of an instruction that fits its module keeps it, where a read is given bytes.
abbrev pub StepKeepsInRange : Type 0
StepKeepsInRange = (p : Program) (choice : Choice) (i : Instr) (r : Configuration) → IsModule p → fits p i ≡ true → GivesBytes choice → InRange r → InRange (step p choice i r).state

-- What is brought are bytes. (In the code they are of the type `u8`.)
abbrev pub IsOfBytes : Piece → Type 0
IsOfBytes (piece.Heap bytes) = AreBytes bytes
IsOfBytes (piece.Transient bytes) = AreBytes bytes
IsOfBytes (piece.Immortal bytes) = AreBytes bytes
IsOfBytes (piece.Pool bytes) = AreBytes bytes
IsOfBytes (piece.File file start len) = Unit {0}
IsOfBytes piece.Flush = Unit {0}
IsOfBytes piece.Eos = Unit {0}

abbrev pub BringsBytes : Event → Type 0
BringsBytes (event.Bring pieces) = All IsOfBytes pieces
BringsBytes e = Unit {0}

-- The buffer is in range whatever is brought and read.
abbrev pub StepKeepsBuffer : Type 0
StepKeepsBuffer = (p : Program) (choice : Choice) (i : Instr) (r : Configuration) → BufferInRange r.call.buffer → BufferInRange (step p choice i r).state.call.buffer

-- The file is open, and reaches so far.
abbrev pub Reaches : Files → ℕ → ℕ → Type 0
Reaches fs file end = (bytes : List ℕ) × (fs.opened file ≡ Some bytes) × (end ≤ length bytes)

-- A range whose home is a pool lies in its file, which is open.
abbrev pub LiesInFile : Files → NamedBucket → Type 0
LiesInFile fs x = (file start len p : ℕ) → x.bucket.content ≡ content.Range file start len → x.bucket.home ≡ home.Pool p → Reaches fs file (start + len)

-- A file that is told with a length is open, and has it.
abbrev pub HasLength : Files → ℕ × ℕ → Type 0
HasLength fs f = (bytes : List ℕ) × (fs.opened f.0 ≡ Some bytes) × (f.1 ≡ length bytes)

-- Ranges, where these files were opened in the request. brigades, loose: each range whose home is alive lies in its file.
-- told: the request's files have the lengths that were told. given: a file of which a pool holds a reference has a number
-- that was given.
pub record SoundRanges (files : List (ℕ × ℕ)) (r : Configuration) : Type 0 where
  pub brigades : (b : ℕ) → All (LiesInFile r.shared.files) (items_of (r.instance.brigades b))
  pub loose : All (LiesInFile r.shared.files) r.call.loose
  pub told : (req : ℕ) → r.shared.req ≡ Some req → All (HasLength r.shared.files) files
  pub given : (p file : ℕ) → refers r.shared.pools p file ≡ true → file < r.shared.files.next

-- A step without a fault keeps all that.
abbrev pub StepKeepsRanges : Type 0
StepKeepsRanges = (p : Program) (choice : Choice) (i : Instr) (files : List (ℕ × ℕ)) (r : Configuration)
    → MayExecute p r i → Sound r → SoundFiles files r → SoundRanges files r → SoundRanges files (step p choice i r).state
