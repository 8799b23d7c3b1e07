-- Files in memory as the files of the model, and as a device.
use Rattle.std.specs.Prelude.{ℕ, ◌<◌, List, Option, Some, None}
use Rattle.run_model.specs.Files.{Files}
use Rattle.bucket_kinds.specs.Device.{Held, Missing, Holds, Plan, Sound, At, Device}
use Rattle.bucket_kinds.specs.InMemory.{under, at_number}
use Rattle.bucket_kinds.specs.declared.mem_files.MemFiles.{MemFiles}

-- An open file is what stands under its name: a name is given once, and its bytes stay.
unfoldable pub files_of : MemFiles → Files
files_of m = record { named = under m.files; opened = at_number m.files m.opened; next = m.next; fails_in = m.fails_in }

-- how many openings and reads failed because they were told to
unfoldable pub failures_of : MemFiles → ℕ
failures_of m = m.failures

abbrev pub held_of : Option (List ℕ) → Held
held_of None = Missing
held_of (Some bytes) = Holds bytes

-- the call that is to fail, by how many go on well before
abbrev pub plan_of : Option ℕ → Plan
plan_of None = Sound
plan_of (Some n) = At n

abbrev pub device_of : Files → ℕ → Device
device_of fs failures =
    record {
      named = λ name. held_of (fs.named name);
      numbered = λ n. held_of (fs.opened n);
      next = fs.next;
      failures = failures;
      plan = plan_of fs.fails_in;
    }

abbrev pub mem_device : MemFiles → Device
mem_device m = device_of (files_of m) (failures_of m)

-- no file has the number 0
pub mem_numbered : (m : MemFiles) → 0 < (mem_device m).next
unfolding files_of
mem_numbered m = m.numbered
