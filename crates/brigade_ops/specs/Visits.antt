-- Buckets of a brigade are looked at, one after another.
use Rattle.std.specs.Prelude.{◌≡◌, ◌⊎◌, Bool, true, false, [], ◌∷◌, Option, None, Some}
use Rattle.bucket_ring.specs.declared.names.BucketId.{BucketId}
use Rattle.run_model.specs.declared.bucket.Bucket.{Bucket}
use Rattle.bucket_store.specs.Items.{Item, Items}

-- What a bucket does to a visitor: the state before it, its name, the bucket, whether the walk stops there, and the state that it leaves.
abbrev pub BucketVisits : Type 0 → Type 1
BucketVisits S = S → BucketId → Bucket → Bool → S → Type 0

-- the visitor stops at this bucket, and is left in state t
pub record StopsAt {S : Type 0} (visits : BucketVisits S) (s : S) (x : Item) (stop : Option BucketId) (t : S) : Type 0 where
  pub here : stop ≡ Some x.0
  pub seen : visits s x.0 x.1 true t

-- A visitor sees these buckets in turn, up to the first at which it stops (None where it stops at none), and is left in state t.
abbrev pub AreVisited : {S : Type 0} → BucketVisits S → S → Items → Option BucketId → S → Type 0
AreVisited visits s [] stop t = (stop ≡ None) × (t ≡ s)
AreVisited {S} visits s (x ∷ xs) stop t = StopsAt visits s x stop t ⊎ ((u : S) × visits s x.0 x.1 false u × AreVisited visits u xs stop t)
