use Rattle.std.proofs.Common.{◌≡◌, ◌+◌, ◌-◌, IsTrue}
use Rattle.author_text.specs.ReadExprs.{read_chain, read_more, read_operand}
use Rattle.author_text.specs.Reading.{unread_of}
use Rattle.author_text.specs.Trees.{expr_of}
use Rattle.author_text.proofs.parser.Parser.+exprs.Given as goal

abbrev pub decreases-asked : goal.decreases-asked
decreases-asked l = l.depth

abbrev pub decreases-chain : goal.decreases-chain
decreases-chain l = l.depth

abbrev pub decreases-inner : goal.decreases-inner
decreases-inner l = l.depth

abbrev pub decreases-named : goal.decreases-named
decreases-named l = l.depth

abbrev pub decreases-operand : goal.decreases-operand
decreases-operand l = l.depth

abbrev pub decreases-unit : goal.decreases-unit
decreases-unit l = l.depth

abbrev pub invariant-chain-loop : goal.invariant-chain-loop
invariant-chain-loop l = record {
  below : l.below + 1 ≡ l.fn.depth;
  level : l.level ≡ l.fn.level;
  whole : IsTrue l.self.faults.is_whole → IsTrue l.fn.self.faults.is_whole;
  read :
      IsTrue l.self.faults.is_whole → read_more (read_operand l.below l.level) l.level (l.count - l.counter) (expr_of l.left) (unread_of l.self) ≡ read_chain l.fn.depth l.fn.level (unread_of l.fn.self);
}
