use Rattle.std.proofs.Common.{◌≡◌, subst, is_some, true, Option, arith}
use Rattle.raw_block.specs.declared.block.Block.{Block}
use Rattle.raw_nodes.specs.declared.node.Node.{Node}
use Rattle.raw_nodes.specs.Free.{place}
use Rattle.raw_nodes.proofs.nodes.Nodes.get.Goals as goal

pub get-node-requires : goal.get-node-requires
unfolding place
get-node-requires g c =
    let s = c.args.self.now in
    subst (λ (o : Option (Block (Node g.row.T.Denot))). is_some (place o c.args.k) ≡ true) c.in-Some.is (s.listed.full c.args.k (omega (arith, c.if-k-size.false, c.size.ensures.value)))
