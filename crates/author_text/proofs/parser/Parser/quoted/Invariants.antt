use Rattle.std.proofs.Common.{◌-◌, IsTrue}
use Rattle.author_text.specs.Reading.{unread_of}
use Rattle.author_text.specs.ReadTexts.{read_texts}
use Rattle.author_text.proofs.ItemLaws.{Rest}
use Rattle.author_text.proofs.parser.Parser.quoted.Given as goal

abbrev pub invariant-loop : goal.invariant-loop
invariant-loop l = record {
  whole : IsTrue l.self.faults.is_whole → IsTrue l.fn.self.faults.is_whole;
  read : IsTrue l.self.faults.is_whole → Rest read_texts (l.count - l.counter) l.bytes.items (unread_of l.self) (read_texts l.count (unread_of l.fn.self));
}
