-- No bucket is another one than before.
use Rattle.std.proofs.Common.{◌≡◌, ℕ, length}
use Rattle.bucket_ring.specs.Kept.{NoneRevived}
use Rattle.bucket_store.specs.BucketStore.{seen}
use Rattle.bucket_store.proofs.bucket_store.BucketStore.put_copies.Given as goal

abbrev pub invariant-loop-copy : goal.invariant-loop-copy
invariant-loop-copy g l = record {
  same : (n : ℕ) → seen l.self n ≡ seen l.initial.self n;
  next : g.R.Rings.next_name l.self.rings.rings ≡ g.R.Rings.next_name l.initial.self.rings.rings;
  names : NoneRevived (g.R.Rings.ring_at l.initial.self.rings.rings) (g.R.Rings.ring_at l.self.rings.rings) (g.R.Rings.next_name l.initial.self.rings.rings);
}

abbrev pub decreases-loop-copy : goal.decreases-loop-copy
decreases-loop-copy g l = length l.copies.items
