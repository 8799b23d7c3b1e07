-- A node of which one link was written.
use Rattle.raw_nodes.specs.declared.node.Node.{Node}
use Rattle.raw_nodes.specs.declared.node.Link.{Link}
use Rattle.raw_nodes.specs.declared.node.Link.TheVariants.{Before, Behind, Ring}

abbrev pub with_link : {T : Type 0} → Link → Node T → Node T
with_link (Before to) n = record n { before = to }
with_link (Behind to) n = record n { behind = to }
with_link (Ring ring) n = record n { ring = ring }
