-- What stands in a brigade: buckets under their names.
use Rattle.std.specs.Prelude.{ℕ, ◌+◌, ◌==◌, if◌then◌else◌, List, [], ◌∷◌, ◌++◌, map, drop, Option, None, Some}
use Rattle.bucket_ring.specs.declared.names.BucketId.{BucketId}
use Rattle.bucket_ring.specs.Lists.{front, rest}
use Rattle.run_model.specs.declared.payload.Payload.{Payload}
use Rattle.run_model.specs.declared.payload.Payload.TheVariants.{FileRef}
use Rattle.run_model.specs.Pools.{Pools, registered}
use Rattle.run_model.specs.Steps.{is_above, file_of}
use Rattle.run_model.specs.Cutting.{set_aside}
use Rattle.run_model.specs.declared.bucket.Bucket.{Bucket}
use Rattle.bucket_kinds.specs.declared.stored.Stored.{Stored}
use Rattle.run_model.specs.declared.bucket.NamedBucket.{NamedBucket}
use Rattle.run_model.specs.declared.bucket.Content.{Content}
use Rattle.run_model.specs.declared.bucket.Content.TheVariants as content

abbrev pub Item : Type 0
Item = BucketId × Bucket

abbrev pub Items : Type 0
Items = List Item

-- the same, as the rings hold them
abbrev pub StoredItem : Type 0
StoredItem = BucketId × Stored

abbrev pub StoredItems : Type 0
StoredItems = List StoredItem

-- a bucket with the name that the model knows: its birth
abbrev pub named_item : Item → NamedBucket
named_item x = record { name = x.0.birth; bucket = x.1 }

-- the buckets of a brigade as the model has them
abbrev pub named : Items → List NamedBucket
named xs = map named_item xs

-- the bytes of a content that lie in memory
abbrev pub bytes_in : Content → List ℕ
bytes_in (content.Bytes bs) = bs
bytes_in (content.Range file start len) = []
bytes_in content.Nothing = []

-- A bucket is another one under its name, and more stand behind it (apr_bucket_split, apr_bucket_read).
abbrev pub replaced : BucketId → Bucket → Items → Items → Items
replaced id x more xs = front id xs ++ (id, x) ∷ (more ++ drop 1 (rest id xs))

-- a bucket that is a range of a file
abbrev range_as : Bucket → Content → Option Bucket
range_as x (content.Bytes bs) = None
range_as x (content.Range file start len) = Some x
range_as x content.Nothing = None

abbrev pub range_in : Bucket → Option Bucket
range_in x = range_as x x.content

-- the rest of a bucket that was read, where there is one, under its name
abbrev pub rest_item : Option BucketId → Option Bucket → Items
rest_item None y = []
rest_item (Some new) None = []
rest_item (Some new) (Some y) = (new, y) ∷ []

-- A place in a brigade is the name of a bucket, or None for its end, which is the sentinel. What stays before a place,
-- and what stands from it on (apr_brigade_split_ex).
module _ {T : Type 0} where
  abbrev pub before_place : Option BucketId → List (BucketId × T) → List (BucketId × T)
  before_place None xs = xs
  before_place (Some id) xs = front id xs

  abbrev pub from_place : Option BucketId → List (BucketId × T) → List (BucketId × T)
  from_place None xs = []
  from_place (Some id) xs = rest id xs

-- the file of which setting a bucket aside takes a further reference (apr_bucket_setaside)
abbrev pub file_for : Pools Payload → ℕ → Bucket → Option ℕ
file_for ps pool x = if is_above ps pool x.home then None else file_of x.kind x.content

-- the pools with that reference, and the count of references to a file then
abbrev pub pools_for : ℕ → Option ℕ → Pools Payload → Pools Payload
pools_for pool None ps = ps
pools_for pool (Some file) ps = registered pool (FileRef file) ps

abbrev pub count_for : ℕ → Option ℕ → ℕ → ℕ
count_for f None count = count
count_for f (Some file) count = if f == file then count + 1 else count

-- a bucket that is set aside into a pool keeps its name
abbrev pub aside_item : Pools Payload → ℕ → Item → Item
aside_item ps pool x = (x.0, set_aside pool (is_above ps pool x.1.home) x.1)

-- From a place on, all is set aside.
abbrev pub aside_behind : Pools Payload → ℕ → Option BucketId → Items → Items
aside_behind ps pool place xs = before_place place xs ++ map (aside_item ps pool) (from_place place xs)
