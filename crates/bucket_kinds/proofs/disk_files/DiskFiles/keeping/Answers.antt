-- No file is open, as the map is empty, and the first number is 1.
use Rattle.std.proofs.Common.{◌≡◌, ℕ, List, ap}
use Rattle.std.specs.Prelude.{nat_eq}
use Rattle.std.specs.HashMap.{HashMap, IsEmpty}
use Rattle.std.specs.Map.{lookup}
use Rattle.bucket_kinds.specs.Device.{Device}
use Rattle.bucket_kinds.specs.DiskDevice.{untold, disk_device, fresh_disk}
use Rattle.bucket_kinds.proofs.disk_files.DiskFiles.keeping.Goals as goal

fresh_from : {F S : Type 0} (opened : HashMap ℕ F S) → IsEmpty opened → disk_device opened 1 0 ≡ fresh_disk
fresh_from {F} opened none = ap (λ (files : List (ℕ × F)). let d : Device = record fresh_disk { numbered = λ n. untold (lookup (nat_eq n) files) } in d) none

pub returns : goal.returns
returns g c = fresh_from c.new.result c.new.ensures.empty
