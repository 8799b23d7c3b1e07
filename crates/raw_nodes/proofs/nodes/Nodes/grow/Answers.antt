use Rattle.std.proofs.Common.{◌≡◌, ℕ, ◌<◌, arith, ap, sym, subst, ◌∙◌, is_some, true, Option}
use Rattle.raw_block.specs.declared.block.Block.{Block}
use Rattle.raw_nodes.specs.declared.node.Node.{Node}
use Rattle.raw_block.specs.Blocks.{at}
use Rattle.raw_nodes.specs.Free.{place, size, IsListed}
use Rattle.raw_nodes.proofs.Free.{listed_as, spare_within}
use Rattle.raw_nodes.proofs.nodes.Nodes.grow.Goals as goal

pub move_all-requires-clause-full : goal.move_all-requires-clause-full
move_all-requires-clause-full g c = subst (λ (o : Option (Block (Node g.row.T.Denot))). (k : ℕ) → k < size o → is_some (place o k) ≡ true) (sym c.take-2.ensures.value) c.args.self.now.listed.full

pub list_free-self-requires-clause-listed : goal.list_free-self-requires-clause-listed
list_free-self-requires-clause-listed g c =
    let s = c.args.self.now in
    subst (λ n. IsListed (at c.move_all.new.larger) s.free s.spare n) (sym c.size-len.ensures.value)
    (listed_as (place s.block) (at c.move_all.new.larger) s.free s.spare (size s.block)
    (λ k. c.move_all.ensures.at k ∙ ap (λ (o : Option (Block (Node g.row.T.Denot))). place o k) c.take-2.ensures.value) s.listed)

pub overflow_add-self : goal.overflow_add-self
overflow_add-self g c =
    let s = c.args.self.now in
    record { fits = omega (arith, spare_within (place s.block) s.free s.spare (size s.block) s.listed, c.size-len.ensures.value, c.if-step-len.false) }
