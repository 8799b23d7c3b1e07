use Rattle.std.proofs.Common.{subst}
use Rattle.byte_text.specs.Writes.{WroteAll, writer_state}
use Rattle.pool_tree.specs.Printed.{printed}
use Rattle.pool_tree.specs.Tree.{map_of}
use Rattle.pool_tree.proofs.Trees.{root_live, root_is}
use Rattle.pool_tree.proofs.tree.PoolTree.print.Goals as goal

pub put_pool-requires-clause-live : goal.put_pool-requires-clause-live
put_pool-requires-clause-live g c = root_live c.args.self.now

pub returns : goal.returns
returns g c = λ root top.
    subst (λ r. WroteAll c.put_pool.result (writer_state g.W.Write.contents c.args.out.now) (writer_state g.W.Write.contents c.put_pool.new.out) (printed g.T.PoolText.shown (map_of c.args.self.now) 0 r))
    (root_is c.args.self.now root top) c.put_pool.ensures
