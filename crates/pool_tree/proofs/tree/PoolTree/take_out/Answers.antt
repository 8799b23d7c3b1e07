use Rattle.std.proofs.Common.{◌∙◌, sym, remove}
use Rattle.run_model.specs.Pools.{with_plain}
use Rattle.pool_tree.specs.Records.{record_of}
use Rattle.pool_tree.specs.Tree.{map_of}
use Rattle.pool_tree.proofs.RefilledTrees.{still_linked, payloads_changed}
use Rattle.pool_tree.proofs.Trees.{tree_live, tree_payloads}
use Rattle.pool_tree.proofs.tree.PoolTree.take_out.Goals as goal

pub take_at-requires-clause-live : goal.take_at-requires-clause-live
take_at-requires-clause-live g c = sym (tree_live c.args.self.now c.args.pool) ∙ c.requires.live

pub take_at-requires-clause-within : goal.take_at-requires-clause-within
take_at-requires-clause-within g c = rw (← tree_payloads c.args.self.now c.args.pool) c.requires.within

pub invariant_of-self : goal.invariant_of-self
invariant_of-self g c = record { linked = still_linked c.args.self.now c.args.pool (with_plain (λ items. remove items c.args.index)) (record_of c.take_at.new.records) c.take_at.ensures.rest }

pub returns-clause-taken : goal.returns-clause-taken
returns-clause-taken g c = rw (tree_payloads c.args.self.now c.args.pool) c.take_at.ensures.taken

pub returns-clause-rest : goal.returns-clause-rest
unfolding map_of
returns-clause-rest g c = payloads_changed c.args.self.now c.args.pool (with_plain (λ items. remove items c.args.index)) (record_of c.take_at.new.records) c.take_at.ensures.rest
