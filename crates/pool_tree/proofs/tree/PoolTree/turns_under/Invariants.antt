use Rattle.std.proofs.Common.{◌≡◌, ℕ, true, ◌++◌, reverse, length}
use Rattle.std.specs.List.{flat_map, list_any}
use Rattle.run_model.specs.Pools.{is_live}
use Rattle.run_model.specs.RunOrder.{turns_at, turns_under}
use Rattle.pool_tree.specs.Tree.{map_of}
use Rattle.pool_tree.proofs.Walks.{turns_due}
use Rattle.pool_tree.proofs.tree.PoolTree.turns_under.Given as goal

-- what the waiting turns stand for, and then those found, the last first
abbrev pub invariant-loop-turn : goal.invariant-loop-turn
invariant-loop-turn g l = record {
  whole : flat_map (turns_due (map_of l.self)) l.waiting.items ++ reverse l.found.items ≡ turns_under (map_of l.self) l.pool;
  live : (n : ℕ) → list_any (turns_at n) l.waiting.items ≡ true → is_live (map_of l.self) n ≡ true;
}

abbrev pub decreases-loop-turn : goal.decreases-loop-turn
decreases-loop-turn g l = length (flat_map (turns_due (map_of l.self)) l.waiting.items)
