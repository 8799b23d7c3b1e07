-- Files in memory are known.
use Rattle.std.proofs.Common.{◌≢◌, ℕ, List, Option, Some, None, ap}
use Rattle.bucket_kinds.specs.Device.{Untold}
use Rattle.bucket_kinds.specs.MemDevice.{held_of, plan_of}
use Rattle.run_laws.specs.KnownFiles.{FilesInMemoryAreKnown}

held_known : (o : Option (List ℕ)) → held_of o ≢ Untold
held_known None is = cc
held_known (Some bytes) is = cc

pub files_in_memory : FilesInMemoryAreKnown
files_in_memory files failures none =
    record { sound = ap plan_of none; named = λ name. held_known (files.named name); numbered = λ file. held_known (files.opened file) }
