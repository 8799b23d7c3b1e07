-- The names that are noted under a pool.
use Rattle.std.specs.Prelude.{ℕ, Bool, ◌||◌, Option, List, [], nat_eq}
use Rattle.std.specs.Option.{option_map_or}
use Rattle.std.specs.HashMap.{get}
use Rattle.bucket_ring.specs.declared.names.BucketId.{BucketId}
use Rattle.bucket_store.specs.declared.dependents.Dependents.{Dependents}
use Rattle.bucket_store.specs.Items.{StoredItems}
use Rattle.bucket_store.specs.Morphs.{is_named}
use Rattle.bucket_store.specs.Noted.{AreNoted}

-- the names under a pool
unfoldable pub names_of : Dependents → ℕ → List BucketId
names_of deps p = option_map_or (λ names. names.ids.items) (get nat_eq deps.names p) []

-- whether a name may be under a pool: one that is noted there, and every name where names were lost
unfoldable pub noted : Dependents → ℕ → BucketId → Bool
noted deps p id = deps.lost || is_named id (names_of deps p)

-- The items that were noted are noted still.
abbrev pub StayNoted : Dependents → Dependents → Type 0
StayNoted old new = (lists : ℕ → Option StoredItems) → AreNoted (noted old) lists → AreNoted (noted new) lists
