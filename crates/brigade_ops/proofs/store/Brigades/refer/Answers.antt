use Rattle.pool_tree.specs.Tree.{map_of}
use Rattle.pool_tree.proofs.Trees.{tree_formed}
use Rattle.brigade_ops.specs.Files.{count_at}
use Rattle.brigade_ops.specs.Store.{lists, pool_of, references}
use Rattle.brigade_ops.proofs.Housed.{house_refer}
use Rattle.brigade_ops.proofs.store.Brigades.refer.Goals as goal

pub returns-clause-house : goal.returns-clause-house
unfolding lists pool_of references count_at
returns-clause-house g c house =
    house_refer c.refer.result (lists c.args.self.now) (pool_of c.args.self.now) (references c.args.self.now) (map_of c.args.tree.now) (map_of c.refer.new.tree) c.args.pool c.args.file
    (count_at c.refer.new.counts)
    (tree_formed c.args.tree.now) c.requires c.refer.ensures.ok c.refer.ensures.counted c.refer.ensures.kept c.refer.ensures.uncounted house
