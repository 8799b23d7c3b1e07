-- What a clear of a pool makes of buckets whose home or bytes lie under it (apr_buckets_pool.c, `pool_bucket_cleanup`).
use Rattle.std.specs.Prelude.{◌≡◌, ◌⊎◌, ℕ, Bool, if◌then◌else◌, List, [], ◌∷◌, map}
use Rattle.std.specs.List.{list_any}
use Rattle.bucket_ring.specs.declared.names.BucketId.{BucketId}
use Rattle.bucket_ring.specs.Lists.{same}
use Rattle.run_model.specs.declared.bucket.Bucket.{Bucket}
use Rattle.run_model.specs.declared.bucket.Kind.{Kind}
use Rattle.run_model.specs.declared.bucket.Kind.TheVariants as kind
use Rattle.run_model.specs.Buckets.{to_heap, end_pools}
use Rattle.bucket_store.specs.declared.morph.Morph.{Morph}
use Rattle.bucket_store.specs.Items.{Item, Items}

-- A clear makes a kind HEAP, or leaves it.
abbrev pub kind_given : Kind → Kind → Kind
kind_given was kind.Heap = kind.Heap
kind_given was kind.Transient = was
kind_given was kind.Immortal = was
kind_given was (kind.Pool p) = was
kind_given was kind.File = was
kind_given was kind.Flush = was
kind_given was kind.Eos = was

-- one bucket gets the kind and the home that were made ready for it
abbrev pub given_by : Morph → Bucket → Bucket
given_by m x = record x { kind = kind_given x.kind m.kind; home = m.home }

abbrev pub morph_one : Morph → BucketId → Bucket → Bucket
morph_one m id x = if same id m.id then given_by m x else x

unfoldable pub morphed : List Morph → BucketId → Bucket → Bucket
morphed [] id x = x
morphed (m ∷ ms) id x = morphed ms id (morph_one m id x)

abbrev pub all_morphed : List Morph → Items → Items
all_morphed ms xs = map (λ (x : Item). (x.0, morphed ms x.0 x.1)) xs

-- a bucket where the pools that pass a test are cleared
abbrev pub cleared_as : (ℕ → Bool) → Bucket → Bucket
cleared_as reached x = record x { kind = to_heap reached x.kind; home = end_pools reached x.home }

abbrev pub is_named : BucketId → List BucketId → Bool
is_named id names = list_any (λ name. same id name) names

-- What was made ready leaves a bucket as it is, or does what a clear does.
abbrev pub IsAsItWas : (ℕ → Bool) → List Morph → BucketId → Bucket → Type 0
IsAsItWas reached ms id x = (morphed ms id x ≡ x) ⊎ (morphed ms id x ≡ cleared_as reached x)
