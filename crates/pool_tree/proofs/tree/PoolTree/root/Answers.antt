use Rattle.std.proofs.Common.{sym}
use Rattle.pool_tree.specs.Records.{record_of}
use Rattle.pool_tree.specs.Tree.{map_of}
use Rattle.pool_tree.proofs.Paths.{root_path}
use Rattle.pool_tree.proofs.Trees.{root_is, root_live}
use Rattle.pool_tree.proofs.tree.PoolTree.root.Goals as goal

pub returns-clause-top : goal.returns-clause-top
unfolding map_of
returns-clause-top g c = root_path c.args.self.now.root c.args.self.now.next (record_of c.args.self.now.records) c.args.self.now.linked

pub returns-clause-alone : goal.returns-clause-alone
returns-clause-alone g c = λ n top. sym (root_is c.args.self.now n top)

pub returns-clause-live : goal.returns-clause-live
returns-clause-live g c = root_live c.args.self.now
