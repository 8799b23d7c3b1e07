use Rattle.std.proofs.Common.{◌∙◌, sym, ap}
use Rattle.run_model.specs.Pools.{Cleanups, with_plain}
use Rattle.run_model.specs.RunOrder.{last_that, without_last, killed}
use Rattle.pool_tree.specs.Records.{record_of}
use Rattle.pool_tree.specs.Tree.{map_of}
use Rattle.pool_tree.proofs.RefilledTrees.{still_linked, payloads_changed}
use Rattle.pool_tree.proofs.Trees.{tree_live, tree_payloads}
use Rattle.pool_tree.proofs.tree.PoolTree.kill.Goals as goal

pub take_newest_equal-requires : goal.take_newest_equal-requires
take_newest_equal-requires g c = sym (tree_live c.args.self.now c.args.pool) ∙ c.requires

pub invariant_of-self : goal.invariant_of-self
invariant_of-self g c =
    let gone = with_plain (without_last (λ other. g.T.PartialEq.eq other c.args.payload.now)) in
    record { linked = still_linked c.args.self.now c.args.pool gone (record_of c.take_newest_equal.new.records) c.take_newest_equal.ensures.rest }

pub returns-clause-taken : goal.returns-clause-taken
returns-clause-taken g c =
    c.take_newest_equal.ensures.taken ∙ ap (λ (held : Cleanups g.row.T.Denot). last_that (λ other. g.T.PartialEq.eq other c.args.payload.now) held.plain) (sym (tree_payloads c.args.self.now c.args.pool))

pub returns-clause-rest : goal.returns-clause-rest
unfolding map_of killed
returns-clause-rest g c =
    payloads_changed c.args.self.now c.args.pool (with_plain (without_last (λ other. g.T.PartialEq.eq other c.args.payload.now))) (record_of c.take_newest_equal.new.records) c.take_newest_equal.ensures.rest
