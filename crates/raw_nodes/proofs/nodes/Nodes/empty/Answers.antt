use Rattle.std.proofs.Common.{refl}
use Rattle.raw_nodes.specs.declared.node.Load.TheVariants.{Sentinel}
use Rattle.raw_nodes.specs.Nodes.{node_at}
use Rattle.raw_nodes.proofs.Free.{changed}
use Rattle.raw_nodes.proofs.nodes.Nodes.empty.Goals as goal

pub invariant_of-self : goal.invariant_of-self
unfolding node_at
invariant_of-self g c =
    let s = c.args.self.now in
    record {
      listed = (changed s.block c.in-Some.block c.write_load.new.block c.args.k s.free s.spare
          (λ n. record n { ring = 0; load = Sentinel }) c.in-Some.is s.listed c.requires c.write_load.ensures.at c.write_load.ensures.len (λ n h. refl)).0;
    }

pub returns-clause-at : goal.returns-clause-at
unfolding node_at
returns-clause-at g c =
    let s = c.args.self.now in
    (changed s.block c.in-Some.block c.write_load.new.block c.args.k s.free s.spare
    (λ n. record n { ring = 0; load = Sentinel }) c.in-Some.is s.listed c.requires c.write_load.ensures.at c.write_load.ensures.len (λ n h. refl)).1
