-- What files in memory answer, and what they are afterwards.
use Rattle.std.specs.Prelude.{ℕ, zero, suc, ◌≡◌, ◌<◌, Bool, true, false, if◌then◌else◌, List, length, Option, Some, None, is_some, Result, Ok, Err}
use Rattle.run_model.specs.Indexed.{upd}
use Rattle.run_model.specs.Files.{Files, file_added, file_opened, read_done, fails_now}
use Rattle.bucket_kinds.specs.Device.{last_number, one_more}
use Rattle.bucket_kinds.specs.declared.refusal.FileFault.{FileFault}
use Rattle.bucket_kinds.specs.declared.refusal.FileFault.TheVariants as fault
use Rattle.bucket_kinds.specs.declared.refusal.AddRefusal.{AddRefusal}
use Rattle.bucket_kinds.specs.declared.refusal.AddRefusal.TheVariants as refusal

-- A file of a name that is not taken is added.
abbrev pub IsAdding : Files → List ℕ → List ℕ → Result (Unit {0}) AddRefusal → Files → Type 0
IsAdding fs name bytes (Ok x) gs = (fs.named name ≡ None) × (gs ≡ file_added name bytes fs)
IsAdding fs name bytes (Err refusal.Taken) gs = (is_some (fs.named name) ≡ true) × (gs ≡ fs)
IsAdding fs name bytes (Err refusal.NoMemory) gs = (fs.named name ≡ None) × (gs ≡ fs)

-- The file of a name is open under the next number, which is new, and its length is told.
pub record OpensMemFile (fs : Files) (name : List ℕ) (number len : ℕ) (gs : Files) : Type 0 where
  pub text : List ℕ
  pub text_is : fs.named name ≡ Some text
  pub length_is : len ≡ length text
  pub number_is : number ≡ fs.next
  pub number_fits : fs.next < last_number
  pub number_is_new : fs.opened fs.next ≡ None
  pub after : gs ≡ file_opened name fs

-- An opening of which no failure is due. That there is no such file is told before anything else.
abbrev pub IsSoundOpening : Files → List ℕ → Result (ℕ × ℕ) FileFault → Files → Type 0
IsSoundOpening fs name (Ok r) gs = OpensMemFile fs name r.0 r.1 gs
IsSoundOpening fs name (Err fault.NotThere) gs = (fs.named name ≡ None) × (gs ≡ fs)
IsSoundOpening fs name (Err fault.Failed) gs = ⊥
IsSoundOpening fs name (Err fault.NamesSpent) gs = (is_some (fs.named name) ≡ true) × (fs.next ≡ last_number) × (gs ≡ fs)
IsSoundOpening fs name (Err fault.NoMemory) gs = (is_some (fs.named name) ≡ true) × (fs.next < last_number) × (gs ≡ fs)

-- An opening that fails where that is due, whatever its name.
abbrev pub IsOpeningDue : Bool → Files → List ℕ → Result (ℕ × ℕ) FileFault → Files → Type 0
IsOpeningDue true fs name r gs = (r ≡ Err fault.Failed) × (gs ≡ fs)
IsOpeningDue false fs name r gs = IsSoundOpening fs name r gs

-- An opening counts as a read does, whatever is answered.
abbrev pub IsFileOpening : Files → List ℕ → Result (ℕ × ℕ) FileFault → Files → Type 0
IsFileOpening fs name r gs = IsOpeningDue (fails_now fs.fails_in) (read_done fs) name r gs

-- the number is that of no open file
abbrev pub file_closed : ℕ → Files → Files
file_closed file fs = record fs { opened = upd fs.opened file None }

-- Where the call of this number is to fail, counted from 1, so many go on well before; 0 is the number of none.
abbrev pub planned : ℕ → Option ℕ
planned zero = None
planned (suc n) = Some n

-- Of the openings and reads that follow, the one of this number is to fail.
abbrev pub failing_at : ℕ → Files → Files
failing_at call fs = record fs { fails_in = planned call }

-- how many openings and reads failed, after one more
abbrev pub counted_if : Bool → ℕ → ℕ
counted_if fails failures = if fails then one_more failures else failures

abbrev pub failures_after : Files → ℕ → ℕ
failures_after fs failures = counted_if (fails_now fs.fails_in) failures
