use Rattle.std.proofs.Common.{codes, map, sym, ap, ◌∙◌}
use Rattle.author_text.specs.Reading.{unread_of}
use Rattle.author_text.specs.ReadSource.{name_alone}
use Rattle.author_text.specs.ReadTexts.{read_listed}
use Rattle.author_text.specs.Trees.{name_of}
use Rattle.author_text.proofs.ItemLaws.{rest_all, done_at, listed_done, listed_last, listed_more, listed_past}
use Rattle.author_text.proofs.ReadExprSteps.{ate, left_it}
use Rattle.author_text.proofs.parser.Parser.param_items.Goals as goal

pub loop-init : goal.loop-init
loop-init c = record { whole = λ w. w; read = λ w. rest_all (read_listed name_alone) c.left-count.result _ (unread_of c.args.self.now) (ap (map name_of) c.new-params.ensures.items) }

pub loop-preserved : goal.loop-preserved
loop-preserved c = record {
  whole = λ w. c.loop.invariant.whole (c.name-param.ensures.whole (c.append.ensures.whole (c.eat.ensures.whole w)));
  read = λ w.
      let w2 = c.eat.ensures.whole w in
      let w1 = c.append.ensures.whole w2 in
      let w0 = c.name-param.ensures.whole w1 in
      listed_more name_of name_alone c.left-count.result c.loop.counter _ _ _ _ _ _ _ _ c.loop-test.true (sym (c.at.ensures w0) ∙ c.if-at.false) (c.name-param.ensures.read w1)
      (c.append.ensures.read w2) (ate (codes ",") (unread_of c.append.new.self) (unread_of c.eat.new.self) c.eat.result (c.eat.ensures.read w) c.if-not-eat.false) (c.loop.invariant.read w0);
}

pub returns-then-at : goal.returns-then-at
returns-then-at c = record {
  whole = c.loop.invariant.whole;
  read = λ w.
      done_at (read_listed name_alone) c.left-count.result _ _ _ _ (c.left-count.ensures (c.loop.invariant.whole w))
      (listed_done name_alone _ _ _ _ (sym (c.at.ensures w) ∙ c.if-at.true) (c.loop.invariant.read w));
}

pub returns-then-not-eat : goal.returns-then-not-eat
returns-then-not-eat c = record {
  whole = λ w. c.loop.invariant.whole (c.name-param.ensures.whole (c.append.ensures.whole (c.eat.ensures.whole w)));
  read = λ w.
      let w2 = c.eat.ensures.whole w in
      let w1 = c.append.ensures.whole w2 in
      let w0 = c.name-param.ensures.whole w1 in
      done_at (read_listed name_alone) c.left-count.result _ _ _ _ (c.left-count.ensures (c.loop.invariant.whole w0))
      (listed_last name_of name_alone c.left-count.result c.loop.counter _ _ _ _ _ _ _ _ c.loop-test.true (sym (c.at.ensures w0) ∙ c.if-at.false) (c.name-param.ensures.read w1)
      (c.append.ensures.read w2) (left_it (codes ",") (unread_of c.append.new.self) (unread_of c.eat.new.self) c.eat.result (c.eat.ensures.read w) c.if-not-eat.true) (c.loop.invariant.read w0));
}

pub returns-after-loop : goal.returns-after-loop
returns-after-loop c = record {
  whole = c.loop.invariant.whole;
  read = λ w.
      done_at (read_listed name_alone) c.left-count.result _ _ _ _ (c.left-count.ensures (c.loop.invariant.whole w))
      (listed_past name_alone c.left-count.result c.loop.counter _ _ _ c.loop-test.false (c.loop.invariant.read w));
}
