-- The words on lists of named buckets are those of the model's brigades.
use Rattle.std.specs.Prelude.{◌≡◌, ℕ, ◌<◌, ◌≤◌, Bool, List, ◌∷◌, [], map, Option, None, Some}
use Rattle.std.specs.List.{AllByRecursion}
use Rattle.std.specs.Option.{option_map}
use Rattle.bucket_ring.specs.declared.names.BucketId.{BucketId}
use Rattle.bucket_ring.specs.Lists as ring
use Rattle.bucket_ring.specs.Lists.{times, found, by_birth, numbered}
use Rattle.run_model.specs.declared.bucket.Bucket.{Bucket}
use Rattle.run_model.specs.Buckets.{cleared_bucket}
use Rattle.run_model.specs.Cutting.{split_at}
use Rattle.run_model.specs.BrigadeLists as model
use Rattle.run_model.specs.Pieces.{named_from}
use Rattle.run_model.specs.Pools.{Pools}
use Rattle.run_model.specs.Steps.{aside_named}
use Rattle.run_model.specs.declared.payload.Payload.{Payload}
use Rattle.run_model.specs.declared.event.Piece.{Piece}
use Rattle.bucket_store.specs.declared.parting.Point.TheVariants as point
use Rattle.bucket_store.specs.Points.{point_in}
use Rattle.bucket_store.specs.declared.morph.Morph.{Morph}
use Rattle.bucket_store.specs.Morphs.{morphed, all_morphed, cleared_as}
use Rattle.bucket_store.specs.Items.{Item, Items, named, named_item, before_place, from_place, replaced, aside_item}

-- No other bucket of the list has the birth of this name. It is so of each name that a store gave, whether the bucket is there still or not.
abbrev pub IsGiven : BucketId → Items → Type 0
IsGiven id xs = (i : BucketId) → 0 < times i xs → i.birth ≡ id.birth → i.slot ≡ id.slot

abbrev pub birth_of : Option BucketId → Option ℕ
birth_of place = option_map (λ id. id.birth) place

-- by apr_buckets.h: APR_BRIGADE_FIRST, INSERT_HEAD, INSERT_TAIL, INSERT_BEFORE, APR_BUCKET_REMOVE, apr_bucket_split, apr_brigade_split_ex,
-- apr_bucket_setaside, and the cleanup of a pool bucket; and buckets that are new together
pub record ListsAreTheModels : Type 0 where
  pub first : (xs : Items) → birth_of (ring.first_of xs) ≡ model.first_place (named xs)
  pub head : (x : Item) (xs : Items) → named (ring.put_head x xs) ≡ model.put_head (named_item x) (named xs)
  pub tail : (x : Item) (xs : Items) → named (ring.put_tail x xs) ≡ model.put_tail (named_item x) (named xs)
  pub before : (at : BucketId) (x : Item) (xs : Items) → IsGiven at xs → named (ring.put_before at x xs) ≡ model.put_before at.birth (named_item x) (named xs)
  pub taken : (id : BucketId) (xs : Items) → IsGiven id xs → named (ring.without id xs) ≡ model.taken_out id.birth (named xs)
  pub stays : (id : BucketId) (xs : Items) → IsGiven id xs → named (before_place (Some id) xs) ≡ model.stays (Some id.birth) (named xs)
  pub moves : (id : BucketId) (xs : Items) → IsGiven id xs → named (from_place (Some id) xs) ≡ model.moves (Some id.birth) (named xs)
  pub split : (id new : BucketId) (n : ℕ) (x : Bucket) (xs : Items) → IsGiven id xs → found id xs ≡ Some x
      → named (replaced id (split_at n x).0 ((new, (split_at n x).1) ∷ []) xs) ≡ model.bucket_split new.birth id.birth n (named xs)
  pub aside : (ps : Pools Payload) (pool : ℕ) (xs : Items) → named (map (aside_item ps pool) xs) ≡ map (aside_named ps pool) (named xs)
  pub cleared : (reached : ℕ → Bool) (ms : List Morph) (xs : Items) → AllByRecursion (λ (x : Item). morphed ms x.0 x.1 ≡ cleared_as reached x.1) xs
      → named (all_morphed ms xs) ≡ map (cleared_bucket reached) (named xs)
  pub brought : (make : Piece → Bucket) (next : ℕ) (pieces : List Piece) (xs : Items) → by_birth xs ≡ numbered next (map make pieces) → named xs ≡ named_from make next pieces

abbrev pub place_cut : Option BucketId → model.Cut
place_cut None = model.AtEnd
place_cut (Some id) = model.Found id.birth

-- By the place of a point, what apr_brigade_partition answers and what it leaves, where the next name is `new`.
pub record PointsAreTheModels : Type 0 where
  pub short : (new p : ℕ) (xs : Items) → point_in p xs ≡ point.Short → model.partition_answer new p (named xs) ≡ model.Incomplete
  pub short_same : (new p : ℕ) (xs : Items) → point_in p xs ≡ point.Short → model.partitioned new p (named xs) ≡ named xs
  pub at : (new p : ℕ) (place : Option BucketId) (xs : Items) → point_in p xs ≡ point.At place → model.partition_answer new p (named xs) ≡ place_cut place
  pub at_same : (new p : ℕ) (place : Option BucketId) (xs : Items) → point_in p xs ≡ point.At place → model.partitioned new p (named xs) ≡ named xs
  pub inside : (new p n : ℕ) (id : BucketId) (xs : Items) → point_in p xs ≡ point.Inside id n → model.partition_answer new p (named xs) ≡ model.Found new
  pub inside_split : (new id : BucketId) (p n : ℕ) (x : Bucket) (xs : Items) → ((i : BucketId) → times i xs ≤ 1) → point_in p xs ≡ point.Inside id n → found id xs ≡ Some x
      → model.partitioned new.birth p (named xs) ≡ named (replaced id (split_at n x).0 ((new, (split_at n x).1) ∷ []) xs)
