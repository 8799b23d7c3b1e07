use Rattle.std.proofs.Common.{add-one, refl, arith}
use Rattle.std.proofs.lemmas.Result.{err_from_is_err_and}
use Rattle.pool_tree.specs.Records.{record_of}
use Rattle.pool_tree.specs.Tree.{map_of}
use Rattle.pool_tree.proofs.Planted.{planted_linked, planted_map}
use Rattle.pool_tree.proofs.Changes.{bare_cleanups}
use Rattle.pool_tree.proofs.Trees.{tree_formed}
use Rattle.pool_tree.proofs.tree.PoolTree.new.Goals as goal

pub invariant_of-result : goal.invariant_of-result
invariant_of-result g c =
    record {
      linked = rw add-one (planted_linked c.args.first (record_of c.new-records.result) (record_of c.put.new.self) _
          refl refl refl refl (bare_cleanups c.new.result.items c.new-2.result.items c.new.ensures.items c.new-2.ensures.items) c.new-records.ensures c.in_ok-put.ensures.ok);
    }

pub returns-clause-ok : goal.returns-clause-ok
unfolding map_of
returns-clause-ok g c =
    rw add-one (planted_map c.args.first (record_of c.new-records.result) (record_of c.put.new.self) _
    refl refl refl refl (bare_cleanups c.new.result.items c.new-2.result.items c.new.ensures.items c.new-2.ensures.items) c.new-records.ensures c.in_ok-put.ensures.ok)

pub returns-clause-formed : goal.returns-clause-formed
returns-clause-formed g c = tree_formed _

pub returns-in_err-put : goal.returns-in_err-put
returns-in_err-put g c =
    let p = err_from_is_err_and c.from_residual.result c.from_residual.ensures.1 in
    rw (p.1, p.2) (record { ok = tt; formed = tt; asked = tt; spent = (λ e. cc, λ e. absurd (omega arith)) })
