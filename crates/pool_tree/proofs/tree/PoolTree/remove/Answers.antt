use Rattle.std.proofs.Common.{◌∙◌, sym}
use Rattle.pool_tree.specs.Records.{record_of}
use Rattle.pool_tree.specs.Tree.{map_of}
use Rattle.pool_tree.proofs.Removed.{removed_linked, removed_map}
use Rattle.pool_tree.proofs.Trees.{tree_live, has_parent, neighbours}
use Rattle.pool_tree.proofs.Walks.{childless}
use Rattle.pool_tree.proofs.tree.PoolTree.remove.Goals as goal

pub remove_leaf-requires : goal.remove_leaf-requires
remove_leaf-requires g c = neighbours c.args.self.now c.args.pool c.requires.live

pub invariant_of-self : goal.invariant_of-self
invariant_of-self g c =
    let q = has_parent c.args.self.now c.args.pool c.requires.live c.requires.below in
    record {
      linked = removed_linked c.args.self.now.root c.args.self.now.next c.args.pool q.0 (record_of c.args.self.now.records) (record_of c.remove_leaf.new.records)
          c.args.self.now.linked (sym (tree_live c.args.self.now c.args.pool) ∙ c.requires.live) q.1 (childless c.args.self.now c.args.pool c.requires.childless) c.remove_leaf.ensures;
    }

pub returns-clause-ok : goal.returns-clause-ok
unfolding map_of
returns-clause-ok g c =
    let q = has_parent c.args.self.now c.args.pool c.requires.live c.requires.below in
    removed_map c.args.self.now.root c.args.self.now.next c.args.pool q.0 (record_of c.args.self.now.records) (record_of c.remove_leaf.new.records)
    c.args.self.now.linked (sym (tree_live c.args.self.now c.args.pool) ∙ c.requires.live) q.1 (childless c.args.self.now c.args.pool c.requires.childless) c.remove_leaf.ensures
