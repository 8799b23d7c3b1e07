-- What contracts see of a store of brigades.
use Rattle.std.specs.Prelude.{ℕ, Option}
use Rattle.std.specs.Option.{option_and_then, option_map_or}
use Rattle.bucket_ring.specs.declared.names.BucketId.{BucketId}
use Rattle.bucket_ring.specs.declared.rings.Rings.{Ghosts}
use Rattle.bucket_ring.specs.Lists.{list_at, found}
use Rattle.bucket_kinds.specs.declared.stored.Stored.{Stored}
use Rattle.run_model.specs.declared.bucket.Bucket.{Bucket}
use Rattle.brigade_ops.specs.declared.store.Brigades.{Brigades}
use Rattle.bucket_store.specs.Items.{Items}
use Rattle.name_table.specs.NameTable.{value_in}
use Rattle.bucket_store.specs.BucketStore.{seen, IsGivenUp}

module _ {R : Type 0} {g : Ghosts R Stored} where
  -- the buckets of each brigade, by its name; None where there is no such brigade
  unfoldable pub lists : Brigades R g → ℕ → Option Items
  lists store = seen store.held

  -- the brigade that a bucket is in
  unfoldable pub brigade_of : Brigades R g → BucketId → Option ℕ
  brigade_of store = g.ring_at store.held.rings.rings

  -- the bucket of a name
  unfoldable pub bucket_at : Brigades R g → BucketId → Option Bucket
  bucket_at store id = option_and_then (λ b. found id (list_at (seen store.held) b)) (g.ring_at store.held.rings.rings id)

  -- the pool that a brigade is on; None where it is on none
  unfoldable pub pool_of : Brigades R g → ℕ → Option ℕ
  pool_of store = value_in store.pools

  -- how many references to a file there are
  unfoldable pub references : Brigades R g → ℕ → ℕ
  references store file = option_map_or (λ n. n) (value_in store.references file) 0

  -- the next name
  unfoldable pub next_name : Brigades R g → ℕ
  next_name store = g.next_name store.held.rings.rings

  -- there is room for one more brigade or bucket
  unfoldable pub has_room : Brigades R g → Type 0
  has_room store = g.has_room store.held.rings.rings

  -- No bytes lie in the region of a pool, if no bucket of the store depends on it: by its kind, its home, or the place where its bytes lie.
  unfoldable pub IsFreed : Brigades R g → ℕ → Type 0
  IsFreed store p = IsGivenUp store.held p
