-- What was written and what is left is all.
use Rattle.std.proofs.Common.{◌≡◌, ℕ, List, ◌++◌, Some, length}
use Rattle.byte_text.specs.Writes.{AppendsText, writer_state}
use Rattle.pool_tree.specs.Printed.{printed}
use Rattle.pool_tree.specs.Left.{IsPlace, text_left}
use Rattle.pool_tree.specs.Tree.{map_of}
use Rattle.pool_tree.proofs.tree.PoolTree.put_pool.Given as goal

abbrev pub invariant-loop-place : goal.invariant-loop-place
invariant-loop-place g l = record {
  front : (written : List ℕ) × (AppendsText (writer_state g.W.Write.contents l.fn.out) (writer_state g.W.Write.contents l.out) written
      × (written ++ text_left (printed g.T.PoolText.shown (map_of l.self)) l.self l.pool l.depth l.place ≡ printed g.T.PoolText.shown (map_of l.self) l.depth l.pool));
  place : (p : ℕ × ℕ) → l.place ≡ Some p → IsPlace l.self l.pool l.depth p.0 p.1;
}

abbrev pub decreases-loop-place : goal.decreases-loop-place
decreases-loop-place g l = length (text_left (printed g.T.PoolText.shown (map_of l.self)) l.self l.pool l.depth l.place)
