use Rattle.std.proofs.Common.{◌≡◌, ℕ, Some, ◌++◌, map}
use Rattle.run_model.specs.declared.effect.CleanupKind.TheVariants.{Plain}
use Rattle.run_model.specs.RunOrder.{children}
use Rattle.pool_tree.specs.Records.{record_of, parent_of}
use Rattle.pool_tree.specs.Tree.{map_of}
use Rattle.pool_tree.proofs.Walks.{behind_from, left_of}
use Rattle.pool_tree.proofs.tree.PoolTree.push_behind.Given as goal

-- the list so far, and the children that are still to come
abbrev pub invariant-loop-child : goal.invariant-loop-child
invariant-loop-child g l = record {
  whole : l.turns.items ++ behind_from l.self l.pool l.child ≡ l.initial.turns.items ++ map (λ (c : ℕ). (c, Plain)) (children (map_of l.self) l.pool);
  child : (c : ℕ) → l.child ≡ Some c → parent_of (record_of l.self.records) c ≡ Some l.pool;
}

abbrev pub decreases-loop-child : goal.decreases-loop-child
decreases-loop-child g l = left_of l.child
