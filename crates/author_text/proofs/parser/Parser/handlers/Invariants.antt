use Rattle.std.proofs.Common.{◌-◌, map, IsTrue}
use Rattle.author_text.specs.Reading.{unread_of}
use Rattle.author_text.specs.ReadSource.{ends_handlers, read_handler}
use Rattle.author_text.specs.ReadTexts.{read_items}
use Rattle.author_text.specs.Trees.{handler_of}
use Rattle.author_text.proofs.ItemLaws.{Rest}
use Rattle.author_text.proofs.parser.Parser.handlers.Given as goal

abbrev pub invariant-loop : goal.invariant-loop
invariant-loop l = record {
  whole : IsTrue l.self.faults.is_whole → IsTrue l.fn.self.faults.is_whole;
  read :
      IsTrue l.self.faults.is_whole → Rest (read_items ends_handlers read_handler) (l.count - l.counter) (map handler_of l.handlers.items) (unread_of l.self) (read_items ends_handlers read_handler l.count (unread_of l.fn.self));
}
