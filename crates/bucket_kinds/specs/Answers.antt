-- What a device of files answers, and what it is afterwards.
use Rattle.std.specs.Prelude.{ℕ, ◌≡◌, ◌<◌, ◌≤◌, true, List, ◌++◌, length, take, drop, Result, Ok, Err}
use Rattle.bucket_kinds.specs.Device.{Held, Missing, Untold, Holds, Device, last_number, is_there, moved, opened, MayGoWell, WentWell, HasFailed}
use Rattle.bucket_kinds.specs.declared.refusal.FileFault.{FileFault}
use Rattle.bucket_kinds.specs.declared.refusal.FileFault.TheVariants as fault

-- whether the file may be missing
abbrev pub MayMiss : Held → Type 0
MayMiss Missing = Unit {0}
MayMiss Untold = Unit {0}
MayMiss (Holds bytes) = ⊥

-- whether there may be a file of this length
abbrev pub MayHave : ℕ → Held → Type 0
MayHave len Missing = ⊥
MayHave len Untold = Unit {0}
MayHave len (Holds bytes) = len ≡ length bytes

-- The file is open under a new number, and its length is told.
pub record Opens (d : Device) (name : List ℕ) (number len : ℕ) (e : Device) : Type 0 where
  pub number_is : number ≡ d.next
  pub number_fits : number < last_number
  pub number_is_new : d.numbered number ≡ Missing
  pub length_is : MayHave len (d.named name)
  pub went_well : MayGoWell d.plan
  pub after : e ≡ opened name (moved d)
  pub is_open : is_there (e.numbered number) ≡ true

-- An opening. It fails where the plan says so; else it went on well, whatever is answered. That there is no such file is told before anything
-- else but a failure, and that numbers are spent before want of memory.
abbrev pub IsOpening : Device → List ℕ → Result (ℕ × ℕ) FileFault → Device → Type 0
IsOpening d name (Ok r) e = Opens d name r.0 r.1 e
IsOpening d name (Err fault.NotThere) e = MayMiss (d.named name) × WentWell d e
IsOpening d name (Err fault.Failed) e = HasFailed d e
IsOpening d name (Err fault.NamesSpent) e = (is_there (d.named name) ≡ true) × (d.next ≡ last_number) × WentWell d e
IsOpening d name (Err fault.NoMemory) e = (is_there (d.named name) ≡ true) × (d.next < last_number) × WentWell d e

-- A buffer is filled from a place on as far as the file reaches; n bytes are.
abbrev pub IsFilled : Held → ℕ → List ℕ → ℕ → List ℕ → Type 0
IsFilled Missing at old n new = ⊥
IsFilled Untold at old n new = n ≤ length old
IsFilled (Holds bytes) at old n new =
    let part = take (length old) (drop at bytes) in (n ≡ length part) × (new ≡ part ++ drop n old)

-- A read at a place. It has no fault but a failure, where the plan says so, and after one nothing is said of the buffer.
abbrev pub IsReading : Device → ℕ → ℕ → List ℕ → Result ℕ FileFault → List ℕ → Device → Type 0
IsReading d file at old (Ok n) new e = IsFilled (d.numbered file) at old n new × WentWell d e
IsReading d file at old (Err f) new e = (f ≡ fault.Failed) × HasFailed d e
