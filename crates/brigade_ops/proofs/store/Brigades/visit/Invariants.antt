-- What is left of the brigade is visited as the whole of it is.
use Rattle.std.proofs.Common.{◌≡◌, Option, Some, length}
use Rattle.bucket_ring.specs.declared.names.BucketId.{BucketId}
use Rattle.bucket_ring.specs.Lists.{list_at}
use Rattle.bucket_store.specs.Items.{from_place}
use Rattle.brigade_ops.specs.Store.{lists, brigade_of}
use Rattle.brigade_ops.specs.Visits.{AreVisited}
use Rattle.brigade_ops.proofs.store.Brigades.visit.Given as goal

abbrev pub invariant-loop-place : goal.invariant-loop-place
invariant-loop-place g l = record {
  left : (stop : Option BucketId) (t : _) → AreVisited g.V.Visitor.visits l.visitor (from_place l.place (list_at (lists l.self) l.b)) stop t
      → AreVisited g.V.Visitor.visits l.fn.visitor (list_at (lists l.self) l.b) stop t;
  inside : (id : BucketId) → l.place ≡ Some id → brigade_of l.self id ≡ Some l.b;
}

abbrev pub decreases-loop-place : goal.decreases-loop-place
decreases-loop-place g l = length (from_place l.place (list_at (lists l.self) l.b))
