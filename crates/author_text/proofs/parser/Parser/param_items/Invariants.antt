use Rattle.std.proofs.Common.{◌-◌, map, IsTrue}
use Rattle.author_text.specs.Reading.{unread_of}
use Rattle.author_text.specs.ReadSource.{name_alone}
use Rattle.author_text.specs.ReadTexts.{read_listed}
use Rattle.author_text.specs.Trees.{name_of}
use Rattle.author_text.proofs.ItemLaws.{Rest}
use Rattle.author_text.proofs.parser.Parser.param_items.Given as goal

abbrev pub invariant-loop : goal.invariant-loop
invariant-loop l = record {
  whole : IsTrue l.self.faults.is_whole → IsTrue l.fn.self.faults.is_whole;
  read :
      IsTrue l.self.faults.is_whole → Rest (read_listed name_alone) (l.count - l.counter) (map name_of l.params.items) (unread_of l.self) (read_listed name_alone l.count (unread_of l.fn.self));
}
