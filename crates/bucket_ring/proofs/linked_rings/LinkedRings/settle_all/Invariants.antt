-- The names of what was put in and of what is left are those of all.
use Rattle.std.proofs.Common.{◌≡◌, ℕ, ◌+◌, ◌≤◌, length, List, ◌++◌, true, is_some}
use Rattle.std.specs.Vec.Iter.{into_iter_items}
use Rattle.bucket_ring.specs.declared.names.BucketId.{BucketId}
use Rattle.bucket_ring.specs.Lists.{on, by_birth, numbered}
use Rattle.bucket_ring.specs.Kept.{NoneRevived}
use Rattle.bucket_ring.specs.Links.{ring_at, lists_of}
use Rattle.bucket_ring.proofs.linked_rings.LinkedRings.settle_all.Given as goal

abbrev pub invariant-loop-payload : goal.invariant-loop-payload
invariant-loop-payload g l = record {
  done : (bs : List (BucketId × g.row.T.Denot)) × (by_birth bs ++ numbered l.self.next (into_iter_items l.left) ≡ numbered l.initial.self.next (into_iter_items l.initial.left))
      × ((n : ℕ) → lists_of l.self.links n ≡ on l.ring (λ xs. xs ++ bs) (lists_of l.initial.self.links) n);
  there : is_some (lists_of l.self.links l.ring) ≡ true;
  room : length (into_iter_items l.left) ≤ g.S.Slots.room l.self.links.nodes;
  next : l.self.next + length (into_iter_items l.left) ≡ l.initial.self.next + length (into_iter_items l.initial.left);
  rises : l.initial.self.next ≤ l.self.next;
  names : NoneRevived (ring_at l.initial.self.links) (ring_at l.self.links) l.initial.self.next;
}

abbrev pub decreases-loop-payload : goal.decreases-loop-payload
decreases-loop-payload g l = length (into_iter_items l.left)
