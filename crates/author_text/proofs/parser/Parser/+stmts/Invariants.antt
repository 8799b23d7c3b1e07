use Rattle.std.proofs.Common.{◌≡◌, ◌+◌, ◌-◌, ◌*◌, map, IsTrue}
use Rattle.author_text.specs.Reading.{unread_of}
use Rattle.author_text.specs.ReadStmts.{ends_block, read_stmt}
use Rattle.author_text.specs.ReadTexts.{read_items}
use Rattle.author_text.specs.Trees.{stmt_of}
use Rattle.author_text.proofs.ItemLaws.{Rest}
use Rattle.author_text.proofs.parser.Parser.+stmts.Given as goal

abbrev pub decreases-block : goal.decreases-block
decreases-block l = 2 * l.depth

abbrev pub decreases-block_items : goal.decreases-block_items
decreases-block_items l = 2 * l.depth + 1

abbrev pub decreases-worded : goal.decreases-worded
decreases-worded l = 2 * l.depth

abbrev pub decreases-choice : goal.decreases-choice
decreases-choice l = 2 * l.depth

abbrev pub decreases-other : goal.decreases-other
decreases-other l = 2 * l.depth + 1

abbrev pub decreases-stmt : goal.decreases-stmt
decreases-stmt l = 2 * l.depth

abbrev pub decreases-walk : goal.decreases-walk
decreases-walk l = 2 * l.depth

abbrev pub invariant-block_items-loop : goal.invariant-block_items-loop
invariant-block_items-loop l = record {
  depth : l.depth ≡ l.fn.depth;
  whole : IsTrue l.self.faults.is_whole → IsTrue l.fn.self.faults.is_whole;
  read :
      IsTrue l.self.faults.is_whole → Rest (read_items ends_block (read_stmt l.depth)) (l.count - l.counter) (map stmt_of l.body.items) (unread_of l.self)
      (read_items ends_block (read_stmt l.fn.depth) l.count (unread_of l.fn.self));
}
