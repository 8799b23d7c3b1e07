-- A file of an opening.
use Rattle.std.specs.Prelude.{◌≡◌, ◌⊎◌, ℕ, ◌+◌, ◌≤◌, List, Option, Some, None, Result, Ok, Err}
use Rattle.module_code.specs.Program.{Program}
use Rattle.bucket_kinds.specs.Answers.{MayMiss}
use Rattle.bucket_kinds.specs.Device.{Device, MayGoWell, MayFail, WentWell, HasFailed, moved, opened, closed}
use Rattle.bucket_kinds.specs.declared.refusal.FileFault.{FileFault}
use Rattle.bucket_kinds.specs.declared.refusal.FileFault.TheVariants as fault
use Rattle.bucket_ring.specs.declared.rings.Rings.{Ghosts}
use Rattle.run_model.specs.declared.event.Refusal.{Refusal}
use Rattle.run_model.specs.declared.event.Refusal.TheVariants as refusal
use Rattle.run_model.specs.declared.payload.Payload.{Payload}
use Rattle.model_laws.specs.ChainFiles.{IsShortLength}
use Rattle.run_model.specs.Chains.{Linked}
use Rattle.run_model.specs.Turns.{Opening, Found, Missing, Failing, opens_file}
use Rattle.pool_tree.specs.declared.tree.PoolTree.{PoolTree}
use Rattle.bucket_kinds.specs.declared.stored.Stored.{Stored}
use Rattle.brigade_ops.specs.declared.store.Brigades.{Brigades}
use Rattle.module_run.specs.declared.conn.Conn.{Conn}
use Rattle.module_run.specs.Happened.{Happened, lasted, refusal_of}
use Rattle.module_run.specs.Proceeding.{MayHold}

-- What a device may tell of the file of this name, where `next` is the model's next number: of what is found also how many numbers lie between that
-- and the device's own. (That it failed may be told of each, where this opening may fail.)
abbrev pub MayTell : ℕ → Device → List ℕ → Opening → Type 0
MayTell next d name (Found skipped bytes) = MayHold (d.named name) bytes × (next + skipped ≡ d.next)
MayTell next d name Missing = MayMiss (d.named name)
MayTell next d name Failing = MayFail d.plan

-- A device was d, and is e after an opening. Not refused, the file is open under the next number. A failure was counted. Without memory, the file
-- was not opened, or it was closed again. Where the device was asked and did not fail, the opening went on well. Else it is as it was.
abbrev pub IsAfterOpening : List ℕ → Option Refusal → Device → Device → Type 0
IsAfterOpening name None d e = MayGoWell d.plan × (e ≡ opened name (moved d))
IsAfterOpening name (Some refusal.NoFile) d e = WentWell d e
IsAfterOpening name (Some refusal.FileFailed) d e = HasFailed d e
IsAfterOpening name (Some refusal.NamesSpent) d e = WentWell d e
IsAfterOpening name (Some refusal.NoMemory) d e = MayGoWell d.plan × ((e ≡ moved d) ⊎ (e ≡ closed d.next (opened name (moved d))))
IsAfterOpening name (Some r) d e = e ≡ d

-- why a file is not opened
abbrev pub unopened_by : FileFault → Refusal
unopened_by fault.NotThere = refusal.NoFile
unopened_by fault.Failed = refusal.FileFailed
unopened_by fault.NamesSpent = refusal.NamesSpent
unopened_by fault.NoMemory = refusal.NoMemory

-- A file that was opened is short.
abbrev pub TellsShort : Result (ℕ × ℕ) Refusal → Type 0
TellsShort (Ok file) = IsShortLength file.1
TellsShort (Err r) = Unit {0}

module _ {R : Type 0} {g : Ghosts R Stored} where
  -- The device d told of the file, and is e then. numbers: the model's next number is at most the device's. short: the length that is told is below 2^64.
  pub record WasOpened (chain : List Program) (tree : PoolTree Payload) (store : Brigades R g) (d e : Device) (c : Conn) (name : List ℕ) (answer : Result (ℕ × ℕ) Refusal) (v : Linked) : Type 0 where
    pub opening : Opening
    pub told : MayTell v.0.file d name opening
    pub happened : Happened chain tree store e c answer (opens_file (lasted answer) opening v)
    pub numbers : (opens_file (lasted answer) opening v).1.0.file ≤ e.next
    pub after : IsAfterOpening name (refusal_of answer) d e
    pub short : TellsShort answer
