use Rattle.std.proofs.Common.{◌-◌, map, IsTrue}
use Rattle.author_text.specs.Reading.{unread_of}
use Rattle.author_text.specs.ReadExprs.{read_expr}
use Rattle.author_text.specs.ReadTexts.{read_listed}
use Rattle.author_text.specs.Trees.{expr_of}
use Rattle.author_text.proofs.ItemLaws.{Rest}
use Rattle.author_text.proofs.parser.Parser.arg_items.Given as goal

abbrev pub invariant-loop : goal.invariant-loop
invariant-loop l = record {
  whole : IsTrue l.self.faults.is_whole → IsTrue l.fn.self.faults.is_whole;
  read :
      IsTrue l.self.faults.is_whole → Rest (read_listed read_expr) (l.count - l.counter) (map expr_of l.args.items) (unread_of l.self) (read_listed read_expr l.count (unread_of l.fn.self));
}
