use Rattle.std.proofs.Common.{◌≡◌, ℕ, true, ◌++◌, reverse, length}
use Rattle.std.specs.List.{flat_map}
use Rattle.run_model.specs.Pools.{is_in, is_live}
use Rattle.run_model.specs.RunOrder.{order, order_under}
use Rattle.pool_tree.specs.Tree.{map_of}
use Rattle.pool_tree.proofs.tree.PoolTree.pools_under.Given as goal

-- what runs under the waiting pools, and then those found, the last first
abbrev pub invariant-loop-next : goal.invariant-loop-next
invariant-loop-next g l = record {
  whole : flat_map (order (map_of l.self)) l.waiting.items ++ reverse l.found.items ≡ order_under (map_of l.self) l.pool;
  live : (n : ℕ) → is_in n l.waiting.items ≡ true → is_live (map_of l.self) n ≡ true;
}

abbrev pub decreases-loop-next : goal.decreases-loop-next
decreases-loop-next g l = length (flat_map (order (map_of l.self)) l.waiting.items)
