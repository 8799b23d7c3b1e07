-- Files of a disk as a device, of which any call may fail: nothing is told of what they hold.
use Rattle.std.specs.Prelude.{ℕ, Option, Some, None, nat_eq}
use Rattle.std.specs.HashMap.{HashMap, get}
use Rattle.bucket_kinds.specs.Device.{Held, Missing, Untold, AnyTime, Device}

abbrev pub untold : {F : Type 0} → Option F → Held
untold None = Missing
untold (Some file) = Untold

-- the open file of a number
abbrev pub disk_number : {F S : Type 0} → HashMap ℕ F S → ℕ → Held
disk_number opened n = untold (get nat_eq opened n)

abbrev pub disk_device : {F S : Type 0} → HashMap ℕ F S → ℕ → ℕ → Device
disk_device opened next failures =
    record { named = λ name. Untold; numbered = disk_number opened; next = next; failures = failures; plan = AnyTime }

-- no file was opened, and none failed
abbrev pub fresh_disk : Device
fresh_disk = record { named = λ name. Untold; numbered = λ n. Missing; next = 1; failures = 0; plan = AnyTime }
