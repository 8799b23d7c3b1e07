use Rattle.std.proofs.Common.{◌≡◌}
use Rattle.raw_nodes.specs.declared.node.Node.{Node}
use Rattle.raw_nodes.specs.declared.node.Link.{Link}
use Rattle.raw_nodes.specs.declared.node.Link.TheVariants.{Before, Behind, Ring}
use Rattle.raw_nodes.specs.Free.{free_load}
use Rattle.raw_nodes.specs.Links.{with_link}
use Rattle.raw_nodes.specs.Nodes.{node_at}
use Rattle.raw_nodes.proofs.Free.{changed}
use Rattle.raw_nodes.proofs.nodes.Nodes.set_link.Goals as goal

still_used : {T : Type 0} (link : Link) (n : Node T) → free_load n.load ≡ 0 → free_load (with_link link n).load ≡ 0
still_used (Before to) n used = used
still_used (Behind to) n used = used
still_used (Ring ring) n used = used

pub invariant_of-self : goal.invariant_of-self
unfolding node_at
invariant_of-self g c =
    let s = c.args.self.now in
    let link = c.args.link in
    let written = c.write_link.ensures in
    record { listed = (changed s.block c.in-Some.block c.write_link.new.block c.args.k s.free s.spare (with_link link) c.in-Some.is s.listed c.requires written.at written.len (still_used link)).0 }

pub returns-in-Some-clause-at : goal.returns-in-Some-clause-at
unfolding node_at
returns-in-Some-clause-at g c =
    let s = c.args.self.now in
    let link = c.args.link in
    let written = c.write_link.ensures in
    (changed s.block c.in-Some.block c.write_link.new.block c.args.k s.free s.spare (with_link link) c.in-Some.is s.listed c.requires written.at written.len (still_used link)).1
