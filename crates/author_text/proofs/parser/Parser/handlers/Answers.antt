use Rattle.std.proofs.Common.{map, sym, ap, ◌∙◌}
use Rattle.author_text.specs.Reading.{unread_of}
use Rattle.author_text.specs.ReadSource.{ends_handlers, read_handler, read_handlers}
use Rattle.author_text.specs.ReadTexts.{read_items}
use Rattle.author_text.specs.Trees.{handler_of}
use Rattle.author_text.proofs.ItemLaws.{rest_all, done_at, items_done, items_more, items_past}
use Rattle.author_text.proofs.parser.Parser.handlers.Goals as goal

pub loop-init : goal.loop-init
loop-init c = record {
  whole = λ w. w;
  read = λ w. rest_all (read_items ends_handlers read_handler) c.left-count.result _ (unread_of c.args.self.now) (ap (map handler_of) c.new-handlers.ensures.items);
}

pub loop-preserved : goal.loop-preserved
loop-preserved c = record {
  whole = λ w. c.loop.invariant.whole (c.handler-handler.ensures.whole (c.append.ensures.whole w));
  read = λ w.
      let w1 = c.append.ensures.whole w in
      let w0 = c.handler-handler.ensures.whole w1 in
      items_more handler_of ends_handlers read_handler c.left-count.result c.loop.counter _ _ _ _ _ _ _ c.loop-test.true (sym (c.is_end.ensures w0) ∙ c.if-is_end.false)
      (c.handler-handler.ensures.read w1) (c.append.ensures.read w) (c.loop.invariant.read w0);
}

pub returns-then-is_end : goal.returns-then-is_end
unfolding read_handlers
returns-then-is_end c = record {
  whole = c.loop.invariant.whole;
  read = λ w.
      done_at (read_items ends_handlers read_handler) c.left-count.result _ _ _ _ (c.left-count.ensures (c.loop.invariant.whole w))
      (items_done ends_handlers read_handler _ _ _ _ (sym (c.is_end.ensures w) ∙ c.if-is_end.true) (c.loop.invariant.read w));
}

pub returns-after-loop : goal.returns-after-loop
unfolding read_handlers
returns-after-loop c = record {
  whole = c.loop.invariant.whole;
  read = λ w.
      done_at (read_items ends_handlers read_handler) c.left-count.result _ _ _ _ (c.left-count.ensures (c.loop.invariant.whole w))
      (items_past ends_handlers read_handler c.left-count.result c.loop.counter _ _ _ c.loop-test.false (c.loop.invariant.read w));
}
