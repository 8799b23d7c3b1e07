-- What is left to set aside makes of the brigade what all of it makes of the brigade that was.
use Rattle.std.proofs.Common.{◌≡◌, ℕ, Some, length}
use Rattle.pool_tree.specs.Tree.{map_of}
use Rattle.bucket_ring.specs.declared.names.BucketId.{BucketId}
use Rattle.bucket_ring.specs.Lists.{on, list_at}
use Rattle.brigade_ops.specs.OnlyLists.{OnlyLists}
use Rattle.bucket_store.specs.Items.{from_place, aside_behind}
use Rattle.brigade_ops.specs.Store.{lists, brigade_of}
use Rattle.brigade_ops.proofs.store.Brigades.put_all_aside.Given as goal

abbrev pub invariant-loop-place : goal.invariant-loop-place
invariant-loop-place g l = record {
  out : (n : ℕ) → on l.b (aside_behind (map_of l.tree) l.pool l.place) (lists l.self) n ≡ on l.b (aside_behind (map_of l.tree) l.pool l.fn.from) (lists l.initial.self) n;
  inside : (id : BucketId) → l.place ≡ Some id → brigade_of l.self id ≡ Some l.b;
  others : OnlyLists l.initial.self l.self;
}

abbrev pub decreases-loop-place : goal.decreases-loop-place
decreases-loop-place g l = length (from_place l.place (list_at (lists l.self) l.b))
