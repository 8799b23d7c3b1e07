-- No bucket before the place depends on the pool.
use Rattle.std.proofs.Common.{◌≡◌, Some, false, length}
use Rattle.bucket_ring.specs.declared.names.BucketId.{BucketId}
use Rattle.bucket_ring.specs.Lists.{list_at, times}
use Rattle.bucket_store.specs.Items.{from_place}
use Rattle.bucket_store.specs.Noted.{bucket_named, still_under}
use Rattle.bucket_store.proofs.noting.ring_has_none.Given as goal

abbrev pub invariant-loop-place : goal.invariant-loop-place
invariant-loop-place g l = record {
  none : (id : BucketId) → g.R.Rings.ring_at l.rings id ≡ Some l.ring → times id (from_place l.place (list_at (g.R.Rings.lists l.rings) l.ring)) ≡ 0
      → still_under l.pool (bucket_named (g.R.Rings.ring_at l.rings) (g.R.Rings.lists l.rings) id) ≡ false;
  inside : (id : BucketId) → l.place ≡ Some id → g.R.Rings.ring_at l.rings id ≡ Some l.ring;
}

abbrev pub decreases-loop-place : goal.decreases-loop-place
decreases-loop-place g l = length (from_place l.place (list_at (g.R.Rings.lists l.rings) l.ring))
