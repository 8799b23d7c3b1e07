-- One of the openings and reads to come, of files in memory, is set to fail.
use Rattle.std.specs.Prelude.{◌≡◌, ℕ}
use Rattle.bucket_kinds.specs.MemAnswers.{planned, failing_at}
use Rattle.bucket_kinds.specs.MemDevice.{files_of, failures_of, mem_device, plan_of}
use Rattle.bucket_kinds.specs.declared.mem_files.MemFiles.{MemFiles}
use Rattle.filter_chain.specs.declared.host.Host.{Host}
use Rattle.bucket_kinds.specs.declared.stored.Stored.{Stored}
use Rattle.bucket_ring.specs.declared.rings.Rings.{Ghosts}

-- The call of this number, counted from 1, is to fail, or none, where it is 0: so many calls go on well before as `plan` says. Of the host nothing but
-- its files changed.
pub record SetsToFail {R : Type 0} {g : Ghosts R Stored} (call : ℕ) (old new : Host MemFiles R g) : Type 0 where
  pub files : files_of new.files ≡ failing_at call (files_of old.files)
  pub failures : failures_of new.files ≡ failures_of old.files
  pub plan : (mem_device new.files).plan ≡ plan_of (planned call)
  pub others : new ≡ record old { files = new.files }
