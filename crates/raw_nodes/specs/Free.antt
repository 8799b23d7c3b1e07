-- Nodes in a block, and the free ones among them, each with the next behind it.
use Rattle.std.specs.Prelude.{◌≡◌, ℕ, zero, suc, ◌<◌, ◌==◌, if◌then◌else◌, Option, None, Some, List, [], ◌∷◌, is_some, true}
use Rattle.std.specs.Option.{option_map_or, option_and_then}
use Rattle.raw_block.specs.declared.block.Block.{Block}
use Rattle.raw_block.specs.Blocks.{at}
use Rattle.raw_nodes.specs.declared.node.Node.{Node}
use Rattle.raw_nodes.specs.declared.node.Load.{Load}
use Rattle.raw_nodes.specs.declared.node.Load.TheVariants.{Free, Sentinel, Bucket}

-- n places from k on, each behind the other
abbrev pub walk : (ℕ → ℕ) → ℕ → ℕ → List ℕ
walk behind k zero = []
walk behind k (suc n) = k ∷ walk behind (behind k) n

-- how often a place stands in a list
abbrev pub count : ℕ → List ℕ → ℕ
count k [] = 0
count k (j ∷ js) = if j == k then suc (count k js) else count k js

module _ {T : Type 0} where
  -- 1 where a node is free
  abbrev pub free_load : Load T → ℕ
  free_load Free = 1
  free_load Sentinel = 0
  free_load (Bucket b) = 0

  abbrev pub once_free : Option (Node T) → ℕ
  once_free None = 0
  once_free (Some n) = free_load n.load

  abbrev pub used_as : Node T → Load T → Option (Node T)
  used_as n Free = None
  used_as n Sentinel = Some n
  used_as n (Bucket b) = Some n

  -- a node that is not free
  abbrev pub used : Option (Node T) → Option (Node T)
  used None = None
  used (Some n) = used_as n n.load

  -- what is written in a place
  unfoldable pub place : Option (Block (Node T)) → ℕ → Option (Node T)
  place block k = option_and_then (λ (b : Block (Node T)). at b k) block

  abbrev pub size : Option (Block (Node T)) → ℕ
  size block = option_map_or (λ (b : Block (Node T)). b.len) block 0

  abbrev pub behind : (ℕ → Option (Node T)) → ℕ → ℕ
  behind places k = option_map_or (λ (n : Node T). n.behind) (places k) k

  -- each place has a node, and each free one stands once in the walk from the first free one
  pub record IsListed (places : ℕ → Option (Node T)) (free spare len : ℕ) : Type 0 where
    pub full : (k : ℕ) → k < len → is_some (places k) ≡ true
    pub within : (k : ℕ) → is_some (places k) ≡ true → k < len
    pub listed : (k : ℕ) → count k (walk (behind places) free spare) ≡ once_free (places k)
