-- What stands in the places of a block.
use Rattle.std.specs.Prelude.{◌≡◌, ℕ, List, length, slice_set, Option, None, Some, get_or}
use Rattle.std.proofs.Common.{◌∙◌, length-set}
use Rattle.raw_block.specs.declared.block.Block.{Block}
use Rattle.raw_block.specs.Lends.{with_place}

-- the value at place k, if there is one
unfoldable pub at : {V : Type 0} → Block V → ℕ → Option V
at b k = get_or b.cells.places k None

-- b, with the value w at place k
abbrev pub with_at : {V : Type 0} → Block V → ℕ → V → Block V
with_at b k w = record {
  base = b.base;
  len = b.len;
  cells = with_place b.cells k (Some w);
  right = b.right;
  alloc = b.alloc;
  whole = b.whole;
  places = (length-set b.cells.places k (Some w) ∙ b.places.0, b.places.1);
}
