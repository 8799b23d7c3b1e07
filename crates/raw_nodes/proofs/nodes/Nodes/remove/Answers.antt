use Rattle.std.proofs.Common.{◌≡◌, ap, refl, arith}
use Rattle.raw_nodes.specs.Nodes.{node_at}
use Rattle.raw_nodes.specs.Free.{place, size}
use Rattle.raw_nodes.proofs.Free.{spare_within, freed_in}
use Rattle.raw_nodes.proofs.nodes.Nodes.remove.Goals as goal

pub overflow_add-self : goal.overflow_add-self
overflow_add-self g c =
    let s = c.args.self.now in
    let len : size s.block ≡ c.in-Some.block.len = ap size c.in-Some.is in
    record { fits = omega (arith, spare_within (place s.block) s.free s.spare (size s.block) s.listed, len, c.in-Some.block.places.1) }

pub invariant_of-self : goal.invariant_of-self
unfolding node_at
invariant_of-self g c =
    let s = c.args.self.now in
    record { listed = freed_in s.block c.in-Some.block c.swap.new.self c.args.k s.free s.spare _ c.in-Some.is s.listed c.requires c.swap.ensures.at c.swap.ensures.len refl refl }
