use Rattle.std.proofs.Common.{◌≡◌, Some}
use Rattle.pool_tree.specs.Records.{record_of, parent_of}
use Rattle.pool_tree.proofs.tree.PoolTree.oldest_child.Given as goal

abbrev pub invariant-loop-older : goal.invariant-loop-older
invariant-loop-older g l = parent_of (record_of l.self.records) l.oldest ≡ Some l.pool

abbrev pub decreases-loop-older : goal.decreases-loop-older
decreases-loop-older g l = l.oldest
