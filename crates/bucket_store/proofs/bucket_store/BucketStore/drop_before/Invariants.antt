use Rattle.std.proofs.Common.{◌≡◌, ℕ, Some, length}
use Rattle.bucket_ring.specs.Lists.{on, list_at, rest}
use Rattle.bucket_store.specs.BucketStore.{seen}
use Rattle.bucket_ring.specs.Kept.{NoneRevived}
use Rattle.bucket_store.proofs.bucket_store.BucketStore.drop_before.Given as goal

-- what stands from the bucket on is as it was, and so are the other rings
abbrev pub invariant-loop-first : goal.invariant-loop-first
invariant-loop-first g l = record {
  out : (n : ℕ) → on l.ring (rest l.id) (seen l.self) n ≡ on l.ring (rest l.id) (seen l.initial.self) n;
  inside : g.R.Rings.ring_at l.self.rings.rings l.id ≡ Some l.ring;
  next : g.R.Rings.next_name l.self.rings.rings ≡ g.R.Rings.next_name l.initial.self.rings.rings;
  names : NoneRevived (g.R.Rings.ring_at l.initial.self.rings.rings) (g.R.Rings.ring_at l.self.rings.rings) (g.R.Rings.next_name l.initial.self.rings.rings);
}

abbrev pub decreases-loop-first : goal.decreases-loop-first
decreases-loop-first g l = length (list_at (seen l.self) l.ring)
