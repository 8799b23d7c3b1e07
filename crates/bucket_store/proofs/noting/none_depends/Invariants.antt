-- No bucket of the rings so far depends on the pool.
use Rattle.std.proofs.Common.{◌≡◌, ℕ, Some, false, ◌<◌}
use Rattle.bucket_ring.specs.declared.names.BucketId.{BucketId}
use Rattle.bucket_store.specs.Noted.{bucket_named, still_under}
use Rattle.bucket_store.proofs.noting.none_depends.Given as goal

abbrev pub invariant-loop-ring : goal.invariant-loop-ring
invariant-loop-ring g l = (id : BucketId) (b : ℕ) → b < l.ring → g.R.Rings.ring_at l.rings id ≡ Some b
    → still_under l.pool (bucket_named (g.R.Rings.ring_at l.rings) (g.R.Rings.lists l.rings) id) ≡ false
