use Rattle.std.proofs.Common.{◌∙◌, sym, refl}
use Rattle.run_model.specs.Pools.{with_one, registered_as}
use Rattle.pool_tree.specs.Records.{record_of}
use Rattle.pool_tree.specs.Tree.{map_of}
use Rattle.pool_tree.proofs.Refilled.{refilled_linked, refilled_same}
use Rattle.pool_tree.proofs.RefilledTrees.{payloads_changed}
use Rattle.pool_tree.proofs.Trees.{tree_formed, tree_live}
use Rattle.pool_tree.proofs.tree.PoolTree.register_as.Goals as goal

pub push-requires : goal.push-requires
push-requires g c = sym (tree_live c.args.self.now c.args.pool) ∙ c.requires

pub invariant_of-self : goal.invariant_of-self
invariant_of-self g c =
    record {
      linked = refilled_linked c.args.self.now.root c.args.self.now.next c.args.pool _ (record_of c.args.self.now.records) (record_of c.push.new.records)
          c.args.self.now.linked c.push.ensures.items;
    }

pub returns-in-Ok-clause-ok : goal.returns-in-Ok-clause-ok
unfolding map_of registered_as
returns-in-Ok-clause-ok g c =
    payloads_changed c.args.self.now c.args.pool (with_one c.args.kind c.args.payload) (record_of c.push.new.records) c.in-Ok.ensures.items

pub returns-in-Err-clause-err : goal.returns-in-Err-clause-err
unfolding map_of
returns-in-Err-clause-err g c =
    refilled_same c.args.self.now.root c.args.self.now.next c.args.pool _ (record_of c.args.self.now.records) (record_of c.push.new.records)
    c.args.self.now.linked c.in-Err.ensures.items refl

pub returns-in-Ok-clause-formed : goal.returns-in-Ok-clause-formed
returns-in-Ok-clause-formed g c = tree_formed _

pub returns-in-Err-clause-formed : goal.returns-in-Err-clause-formed
returns-in-Err-clause-formed g c = tree_formed _
