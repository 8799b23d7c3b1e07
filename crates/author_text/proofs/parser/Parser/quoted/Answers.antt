use Rattle.std.proofs.Common.{sym, ◌∙◌}
use Rattle.author_text.specs.Reading.{unread_of}
use Rattle.author_text.specs.ReadTexts.{read_texts, read_quoted}
use Rattle.author_text.proofs.ItemLaws.{rest_all, done_at, texts_more, texts_done, texts_past}
use Rattle.author_text.proofs.parser.Parser.quoted.Goals as goal

pub loop-init : goal.loop-init
loop-init c = record { whole = λ w. w; read = λ w. rest_all read_texts c.left-count.result _ (unread_of c.args.self.now) c.new-bytes.ensures.items }

pub loop-preserved : goal.loop-preserved
loop-preserved c = record {
  whole = λ w. c.loop.invariant.whole (c.take.ensures.whole (c.push_text.ensures.whole w));
  read = λ w.
      let w1 = c.push_text.ensures.whole w in
      let w0 = c.take.ensures.whole w1 in
      texts_more c.left-count.result c.loop.counter _ _ c.take.result.text.now c.take.result.kind _ _ _ _ c.loop-test.true (sym (c.is_text.ensures w0) ∙ c.if-not-is_text.false)
      (c.take.ensures.read w1).0 (c.take.ensures.read w1).1 (c.push_text.ensures.read w) (c.loop.invariant.read w0);
}

pub returns-after-loop : goal.returns-after-loop
unfolding read_quoted
returns-after-loop c = record {
  whole = c.loop.invariant.whole;
  read = λ w.
      done_at read_texts c.left-count.result _ _ _ _ (c.left-count.ensures (c.loop.invariant.whole w))
      (texts_past c.left-count.result c.loop.counter _ _ _ c.loop-test.false (c.loop.invariant.read w));
}

pub returns-then-not-is_text : goal.returns-then-not-is_text
unfolding read_quoted
returns-then-not-is_text c = record {
  whole = c.loop.invariant.whole;
  read = λ w.
      done_at read_texts c.left-count.result _ _ _ _ (c.left-count.ensures (c.loop.invariant.whole w))
      (texts_done _ _ _ _ (sym (c.is_text.ensures w) ∙ c.if-not-is_text.true) (c.loop.invariant.read w));
}
