-- The buckets before the place are made ready, and those of other brigades are as they were.
use Rattle.std.proofs.Common.{◌≡◌, ◌≢◌, ℕ, Some, length}
use Rattle.run_model.specs.declared.bucket.Bucket.{Bucket}
use Rattle.bucket_ring.specs.declared.names.BucketId.{BucketId}
use Rattle.bucket_ring.specs.Lists.{list_at, times}
use Rattle.bucket_store.specs.Items.{from_place}
use Rattle.brigade_ops.specs.Due.{is_reached}
use Rattle.bucket_store.specs.Morphs.{morphed, cleared_as, IsAsItWas}
use Rattle.brigade_ops.specs.Store.{lists, brigade_of, bucket_at}
use Rattle.brigade_ops.proofs.store.Brigades.plan_ring.Given as goal

abbrev pub invariant-loop-place : goal.invariant-loop-place
invariant-loop-place g l = record {
  ready : (id : BucketId) (x : Bucket) → brigade_of l.self id ≡ Some l.b → bucket_at l.self id ≡ Some x → times id (from_place l.place (list_at (lists l.self) l.b)) ≡ 0
      → morphed l.found id x ≡ cleared_as (is_reached l.reached) x;
  begun : (id : BucketId) (x : Bucket) → bucket_at l.self id ≡ Some x → IsAsItWas (is_reached l.reached) l.found id x;
  others : (id : BucketId) (q : ℕ) (x : Bucket) → brigade_of l.self id ≡ Some q → q ≢ l.b → morphed l.found id x ≡ morphed l.initial.found id x;
  inside : (id : BucketId) → l.place ≡ Some id → brigade_of l.self id ≡ Some l.b;
}

abbrev pub decreases-loop-place : goal.decreases-loop-place
decreases-loop-place g l = length (from_place l.place (list_at (lists l.self) l.b))
