-- What a node holds.
use Rattle.std.specs.Prelude.{Option, None, Some}
use Rattle.std.specs.Option.{option_map}
use Rattle.raw_nodes.specs.declared.node.Node.{Node}
use Rattle.raw_nodes.specs.declared.node.SlotBucket.{SlotBucket}
use Rattle.raw_nodes.specs.declared.node.Load.{Load}
use Rattle.raw_nodes.specs.declared.node.Load.TheVariants.{Free, Sentinel, Bucket}

module _ {T : Type 0} where
  abbrev pub load_of : Option (Node T) → Option (Load T)
  load_of node = option_map (λ (n : Node T). n.load) node

  -- the bucket, if it is one
  abbrev pub bucket_in : Load T → Option (SlotBucket T)
  bucket_in Free = None
  bucket_in Sentinel = None
  bucket_in (Bucket bucket) = Some bucket
