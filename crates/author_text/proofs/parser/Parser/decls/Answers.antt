use Rattle.std.proofs.Common.{map, sym, ap, ◌∙◌}
use Rattle.author_text.specs.Reading.{unread_of}
use Rattle.author_text.specs.ReadSource.{ends_decls, read_decl}
use Rattle.author_text.specs.ReadTexts.{read_items}
use Rattle.author_text.specs.Trees.{decl_of}
use Rattle.author_text.proofs.ItemLaws.{rest_all, done_at, items_done, items_more, items_past}
use Rattle.author_text.proofs.parser.Parser.decls.Goals as goal

pub loop-init : goal.loop-init
loop-init c = record {
  whole = λ w. w;
  read = λ w. rest_all (read_items ends_decls read_decl) c.left-count.result _ (unread_of c.args.self.now) (ap (map decl_of) c.new-decls.ensures.items);
}

pub loop-preserved : goal.loop-preserved
loop-preserved c = record {
  whole = λ w. c.loop.invariant.whole (c.decl-decl.ensures.whole (c.append.ensures.whole w));
  read = λ w.
      let w1 = c.append.ensures.whole w in
      let w0 = c.decl-decl.ensures.whole w1 in
      items_more decl_of ends_decls read_decl c.left-count.result c.loop.counter _ _ _ _ _ _ _ c.loop-test.true (sym (c.ends_decls.ensures w0) ∙ c.if-ends_decls.false)
      (c.decl-decl.ensures.read w1) (c.append.ensures.read w) (c.loop.invariant.read w0);
}

pub returns-then-ends_decls : goal.returns-then-ends_decls
returns-then-ends_decls c = record {
  whole = c.loop.invariant.whole;
  read = λ w.
      done_at (read_items ends_decls read_decl) c.left-count.result _ _ _ _ (c.left-count.ensures (c.loop.invariant.whole w))
      (items_done ends_decls read_decl _ _ _ _ (sym (c.ends_decls.ensures w) ∙ c.if-ends_decls.true) (c.loop.invariant.read w));
}

pub returns-after-loop : goal.returns-after-loop
returns-after-loop c = record {
  whole = c.loop.invariant.whole;
  read = λ w.
      done_at (read_items ends_decls read_decl) c.left-count.result _ _ _ _ (c.left-count.ensures (c.loop.invariant.whole w))
      (items_past ends_decls read_decl c.left-count.result c.loop.counter _ _ _ c.loop-test.false (c.loop.invariant.read w));
}
