use Rattle.std.proofs.Common.{◌≡◌, true}
use Rattle.run_model.specs.Pools.{is_live, is_under}
use Rattle.pool_tree.specs.Tree.{map_of}
use Rattle.pool_tree.proofs.tree.PoolTree.is_ancestor.Given as goal

-- the walk has come to a pool, which is under the ancestor where the first one is
abbrev pub invariant-loop-current : goal.invariant-loop-current
invariant-loop-current g l = record { live : is_live (map_of l.self) l.current ≡ true; same : is_under (map_of l.self) l.ancestor l.current ≡ is_under (map_of l.self) l.ancestor l.pool }

abbrev pub decreases-loop-current : goal.decreases-loop-current
decreases-loop-current g l = l.current
