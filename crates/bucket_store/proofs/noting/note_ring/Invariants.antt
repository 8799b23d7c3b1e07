-- The buckets before the place are noted.
use Rattle.std.proofs.Common.{◌≡◌, ◌≤◌, ℕ, Some, true, length}
use Rattle.bucket_kinds.specs.declared.stored.Stored.{Stored}
use Rattle.bucket_ring.specs.declared.names.BucketId.{BucketId}
use Rattle.bucket_ring.specs.Lists.{list_at, times, found}
use Rattle.bucket_store.specs.Dependents.{noted}
use Rattle.bucket_store.specs.Items.{from_place}
use Rattle.bucket_store.specs.Noted.{is_noted}
use Rattle.bucket_store.proofs.noting.note_ring.Given as goal

abbrev pub invariant-loop-place : goal.invariant-loop-place
invariant-loop-place g l = record {
  done : (id : BucketId) (x : Stored) → found id (list_at (g.R.Rings.lists l.rings) l.ring) ≡ Some x → times id (from_place l.place (list_at (g.R.Rings.lists l.rings) l.ring)) ≡ 0
      → l.from ≤ id.birth → is_noted (noted l.dependents) (id, x) ≡ true;
  kept : (p : ℕ) (j : BucketId) → noted l.initial.dependents p j ≡ true → noted l.dependents p j ≡ true;
  inside : (id : BucketId) → l.place ≡ Some id → g.R.Rings.ring_at l.rings id ≡ Some l.ring;
}

abbrev pub decreases-loop-place : goal.decreases-loop-place
decreases-loop-place g l = length (from_place l.place (list_at (g.R.Rings.lists l.rings) l.ring))
