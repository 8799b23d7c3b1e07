use Rattle.std.proofs.Common.{◌≡◌, ap, sym, ◌∙◌, Option, is_some, refl, arith}
use Rattle.raw_block.specs.declared.block.Block.{Block}
use Rattle.raw_nodes.specs.declared.node.Node.{Node}
use Rattle.raw_nodes.specs.Nodes.{node_at}
use Rattle.raw_nodes.specs.Free.{place, size, once_free}
use Rattle.raw_nodes.proofs.Free.{first_free, is_free, used_none, taken_in}
use Rattle.raw_nodes.proofs.nodes.Nodes.add.Goals as goal

pub swap-old-requires : goal.swap-old-requires
unfolding place
swap-old-requires g c =
    let s = c.args.self.now in
    ap (λ (o : Option (Block (Node g.row.T.Denot))). is_some (place o s.free)) (sym c.in-Some.is)
    ∙ is_free (place s.block s.free) (first_free (place s.block) s.free s.spare (size s.block) s.listed c.requires)

pub invariant_of-self : goal.invariant_of-self
invariant_of-self g c =
    let s = c.args.self.now in
    record {
      listed = taken_in s.block c.in-Some.block c.swap-old.new.self s.free s.spare c.swap-old.result _
          c.in-Some.is s.listed c.requires c.swap-old.ensures.value c.swap-old.ensures.at c.swap-old.ensures.len refl;
    }

pub unreachable-requires : goal.unreachable-requires
unfolding place
unreachable-requires g c =
    let s = c.args.self.now in
    let none : once_free (place s.block s.free) ≡ 0 = ap (λ (o : Option (Block (Node g.row.T.Denot))). once_free (place o s.free)) c.in-None.is in
    omega (arith, none, first_free (place s.block) s.free s.spare (size s.block) s.listed c.requires)

pub returns-clause-was : goal.returns-clause-was
unfolding node_at
returns-clause-was g c =
    let s = c.args.self.now in
    used_none (place s.block s.free) (first_free (place s.block) s.free s.spare (size s.block) s.listed c.requires)
