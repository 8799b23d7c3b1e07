use Rattle.std.proofs.Common.{refl, arith}
use Rattle.pool_tree.specs.Records.{record_of}
use Rattle.pool_tree.specs.Links.{map_at}
use Rattle.pool_tree.specs.Tree.{map_of}
use Rattle.pool_tree.proofs.Renamed.{renamed_linked}
use Rattle.pool_tree.proofs.tree.PoolTree.set_next.Goals as goal

pub invariant_of-self : goal.invariant_of-self
unfolding map_of map_at
invariant_of-self g c =
    let tree = c.args.self.now in
    record {
      linked = renamed_linked tree.root tree.next c.args.next (record_of tree.records) tree.linked (λ n live. omega (arith, tree.linked.named n live, c.requires));
    }

pub returns-clause-out : goal.returns-clause-out
unfolding map_of map_at
returns-clause-out g c = refl
