-- The buckets so far, each with a content of its own.
use Rattle.std.proofs.Common.{◌≡◌, true, map}
use Rattle.std.specs.List.{list_all}
use Rattle.bucket_store.specs.Shown.{is_own, own_bucket}
use Rattle.bucket_store.proofs.bucket_store.BucketStore.hold_all.Given as goal

abbrev pub invariant-loop-bucket : goal.invariant-loop-bucket
invariant-loop-bucket g l = record {
  own : list_all is_own l.held.items ≡ true;
  shown : map own_bucket l.held.items ≡ l.yielded;
}
