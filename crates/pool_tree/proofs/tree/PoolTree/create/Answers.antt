use Rattle.std.proofs.Common.{◌∙◌, sym, add-one, arith}
use Rattle.std.proofs.lemmas.Result.{err_from_is_err_and}
use Rattle.pool_tree.specs.Records.{record_of}
use Rattle.pool_tree.specs.Tree.{map_of}
use Rattle.pool_tree.proofs.Added.{added_linked, added_map}
use Rattle.pool_tree.proofs.Trees.{tree_formed, tree_live, tree_next, next_free, newest_is_live, same_linked, same_map, on_err}
use Rattle.pool_tree.proofs.tree.PoolTree.create.Goals as goal

pub add_child-requires-clause-free : goal.add_child-requires-clause-free
add_child-requires-clause-free g c = next_free c.args.self.now

pub add_child-requires-clause-live : goal.add_child-requires-clause-live
add_child-requires-clause-live g c = sym (tree_live c.args.self.now c.args.parent) ∙ c.requires

pub add_child-requires-clause-last : goal.add_child-requires-clause-last
add_child-requires-clause-last g c = newest_is_live c.args.self.now c.args.parent

pub invariant_of-self : goal.invariant_of-self
invariant_of-self g c =
    record {
      linked = same_linked c.args.self.now.root c.args.self.now.next (record_of c.args.self.now.records) (record_of c.add_child.new.records)
          c.in_err-add_child.ensures.err c.args.self.now.linked;
    }

pub invariant_of-self-2 : goal.invariant_of-self-2
invariant_of-self-2 g c =
    record {
      linked = rw add-one (added_linked c.args.self.now.root c.args.self.now.next c.args.parent (record_of c.args.self.now.records) (record_of c.add_child.new.records)
          c.args.self.now.linked (sym (tree_live c.args.self.now c.args.parent) ∙ c.requires) c.in_ok-add_child.ensures.ok);
    }

pub returns-in_err-add_child-clause-err : goal.returns-in_err-add_child-clause-err
unfolding map_of
returns-in_err-add_child-clause-err g c =
    on_err c.from_residual.result (same_map c.args.self.now.next (record_of c.args.self.now.records) (record_of c.add_child.new.records) c.in_err-add_child.ensures.err)

pub returns-clause-ok : goal.returns-clause-ok
unfolding map_of
returns-clause-ok g c =
    rw add-one (added_map c.args.self.now.root c.args.self.now.next c.args.parent (record_of c.args.self.now.records) (record_of c.add_child.new.records)
    c.args.self.now.linked (sym (tree_live c.args.self.now c.args.parent) ∙ c.requires) c.in_ok-add_child.ensures.ok)

pub returns-in_err-add_child-clause-ok : goal.returns-in_err-add_child-clause-ok
returns-in_err-add_child-clause-ok g c = let p = err_from_is_err_and c.from_residual.result c.from_residual.ensures.1 in rw p.1 tt

pub returns-in_err-add_child-clause-name : goal.returns-in_err-add_child-clause-name
returns-in_err-add_child-clause-name g c = let p = err_from_is_err_and c.from_residual.result c.from_residual.ensures.1 in rw p.1 tt

pub returns-in_err-add_child-clause-formed : goal.returns-in_err-add_child-clause-formed
returns-in_err-add_child-clause-formed g c = tree_formed _

pub returns-in_err-add_child-clause-spent : goal.returns-in_err-add_child-clause-spent
returns-in_err-add_child-clause-spent g c =
    let p = err_from_is_err_and c.from_residual.result c.from_residual.ensures.1 in
    rw (p.1, p.2) (λ e. cc, λ e. absurd (omega (arith, tree_next c.args.self.now)))

pub returns-clause-name : goal.returns-clause-name
returns-clause-name g c = sym (tree_next c.args.self.now)

pub returns-clause-formed : goal.returns-clause-formed
returns-clause-formed g c = tree_formed _

pub returns-clause-spent : goal.returns-clause-spent
returns-clause-spent g c = (λ e. cc, λ e. absurd (omega (arith, tree_next c.args.self.now)))
