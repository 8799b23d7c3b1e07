use Rattle.std.proofs.Common.{◌≡◌, ℕ, ◌<◌, subst, is_some, true, Option}
use Rattle.raw_block.specs.declared.block.Block.{Block}
use Rattle.raw_nodes.specs.declared.node.Node.{Node}
use Rattle.raw_nodes.specs.Free.{place, size}
use Rattle.raw_nodes.proofs.nodes.Nodes.drop.Goals as goal

pub drop_all-requires : goal.drop_all-requires
unfolding place
drop_all-requires g c = subst (λ (o : Option (Block (Node g.row.T.Denot))). (k : ℕ) → k < size o → is_some (place o k) ≡ true) c.in-Some.is c.args.self.listed.full
