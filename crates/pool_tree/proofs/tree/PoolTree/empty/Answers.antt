-- As the call that is made.
use Rattle.std.proofs.Common.{rules}
use Rattle.pool_tree.proofs.tree.PoolTree.empty.Goals as goal

pub returns-in-Destroy-clause-ok : goal.returns-in-Destroy-clause-ok
returns-in-Destroy-clause-ok g c = search rules
