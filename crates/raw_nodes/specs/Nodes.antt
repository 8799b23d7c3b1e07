-- What contracts see of nodes.
use Rattle.std.specs.Prelude.{ℕ, Option}
use Rattle.raw_nodes.specs.declared.node.Node.{Node}
use Rattle.raw_nodes.specs.declared.nodes.Nodes.{Nodes}
use Rattle.raw_nodes.specs.Free.{place, used}

-- the node in a place, where it is not free
unfoldable pub node_at : {T : Type 0} → Nodes T → ℕ → Option (Node T)
node_at s k = used (place s.block k)
