use Rattle.std.proofs.Common.{◌-◌, map, IsTrue}
use Rattle.author_text.specs.Reading.{unread_of}
use Rattle.author_text.specs.ReadSource.{ends_decls, read_decl}
use Rattle.author_text.specs.ReadTexts.{read_items}
use Rattle.author_text.specs.Trees.{decl_of}
use Rattle.author_text.proofs.ItemLaws.{Rest}
use Rattle.author_text.proofs.parser.Parser.decls.Given as goal

abbrev pub invariant-loop : goal.invariant-loop
invariant-loop l = record {
  whole : IsTrue l.self.faults.is_whole → IsTrue l.fn.self.faults.is_whole;
  read :
      IsTrue l.self.faults.is_whole → Rest (read_items ends_decls read_decl) (l.count - l.counter) (map decl_of l.decls.items) (unread_of l.self) (read_items ends_decls read_decl l.count (unread_of l.fn.self));
}
