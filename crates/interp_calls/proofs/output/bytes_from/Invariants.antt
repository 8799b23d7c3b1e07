-- What was counted so far and what is left are all.
use Rattle.std.proofs.Common.{◌≡◌, ◌+◌, Some, length}
use Rattle.bucket_ring.specs.declared.names.BucketId.{BucketId}
use Rattle.bucket_ring.specs.Lists.{list_at}
use Rattle.bucket_store.specs.Items.{from_place}
use Rattle.brigade_ops.specs.Store.{lists, brigade_of}
use Rattle.interp_calls.specs.Filled.{bytes_before_eos}
use Rattle.interp_calls.proofs.output.bytes_from.Given as goal

abbrev pub invariant-loop-place : goal.invariant-loop-place
invariant-loop-place g l = record {
  sum : l.sum + bytes_before_eos (from_place l.place (list_at (lists l.store) l.b)) ≡ bytes_before_eos (from_place l.fn.from (list_at (lists l.store) l.b));
  inside : (id : BucketId) → l.place ≡ Some id → brigade_of l.store id ≡ Some l.b;
}

abbrev pub decreases-loop-place : goal.decreases-loop-place
decreases-loop-place g l = length (from_place l.place (list_at (lists l.store) l.b))
