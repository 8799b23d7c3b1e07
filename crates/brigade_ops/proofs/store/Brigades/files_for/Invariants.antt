-- The files so far, and those of the buckets that are left, are all.
use Rattle.std.proofs.Common.{◌≡◌, ◌++◌, Some, filter_map, length}
use Rattle.run_model.specs.Steps.{new_ref}
use Rattle.pool_tree.specs.Tree.{map_of}
use Rattle.bucket_ring.specs.declared.names.BucketId.{BucketId}
use Rattle.bucket_ring.specs.Lists.{list_at}
use Rattle.bucket_store.specs.Items.{named, from_place}
use Rattle.brigade_ops.specs.Store.{lists, brigade_of}
use Rattle.brigade_ops.proofs.store.Brigades.files_for.Given as goal

abbrev pub invariant-loop-place : goal.invariant-loop-place
invariant-loop-place g l = record {
  all : l.files ++ filter_map (new_ref (map_of l.tree) l.pool) (named (from_place l.place (list_at (lists l.self) l.b))) ≡ filter_map (new_ref (map_of l.tree) l.pool)
      (named (list_at (lists l.self) l.b));
  inside : (id : BucketId) → l.place ≡ Some id → brigade_of l.self id ≡ Some l.b;
}

abbrev pub decreases-loop-place : goal.decreases-loop-place
decreases-loop-place g l = length (from_place l.place (list_at (lists l.self) l.b))
