use Rattle.std.proofs.Common.{sym, ◌∙◌, arith}
use Rattle.author_text.specs.ReadStmts.{ends_block, read_stmt}
use Rattle.author_text.specs.ReadTexts.{read_items}
use Rattle.author_text.specs.Trees.{stmt_of}
use Rattle.author_text.proofs.ItemLaws.{items_more, items_done, items_past, done_at}
use Rattle.author_text.proofs.ReadStmtSteps.{choice_all, walk_all, worded_while, worded_loop}
use Rattle.author_text.proofs.parser.Parser.+stmts.Goals as goal

pub block_items-loop-preserved : goal.block_items-loop-preserved
block_items-loop-preserved t c = record {
  depth = c.loop.invariant.depth;
  whole = λ w. c.loop.invariant.whole (c.stmt-stmt.ensures.whole (c.append.ensures.whole w));
  read = λ w.
      let w1 = c.append.ensures.whole w in
      let w0 = c.stmt-stmt.ensures.whole w1 in
      items_more stmt_of ends_block (read_stmt _) c.left-count.result c.loop.counter _ _ _ _ _ _ _ c.loop-test.true (sym (c.ends_block.ensures w0) ∙ c.if-ends_block.false)
      (c.stmt-stmt.ensures.read w1) (c.append.ensures.read w) (c.loop.invariant.read w0);
}

pub block_items-returns-then-ends_block : goal.block_items-returns-then-ends_block
block_items-returns-then-ends_block t c = record {
  whole = c.loop.invariant.whole;
  read = λ w.
      done_at (read_items ends_block (read_stmt c.args.depth)) c.left-count.result _ _ _ _ (c.left-count.ensures (c.loop.invariant.whole w))
      (items_done ends_block (read_stmt c.args.depth) _ _ _ _ (sym (c.ends_block.ensures w) ∙ c.if-ends_block.true) (c.loop.invariant.read w));
}

pub block_items-returns-after-loop : goal.block_items-returns-after-loop
block_items-returns-after-loop t c = record {
  whole = c.loop.invariant.whole;
  read = λ w.
      done_at (read_items ends_block (read_stmt c.args.depth)) c.left-count.result _ _ _ _ (c.left-count.ensures (c.loop.invariant.whole w))
      (items_past ends_block (read_stmt c.args.depth) c.left-count.result c.loop.counter _ _ _ c.loop-test.false (c.loop.invariant.read w));
}

pub choice-returns : goal.choice-returns
choice-returns t c = record {
  whole = λ w. c.expr-test.ensures.read.whole (c.block-then.ensures.whole (c.other-other.ensures.whole w));
  read = λ w.
      let w2 = c.other-other.ensures.whole w in
      let w1 = c.block-then.ensures.whole w2 in
      let k = choice_all c.args.depth _ _ _ _ _ _ _ (omega arith) (c.expr-test.ensures.read.read w1) (c.block-then.ensures.read w2) (c.other-other.ensures.read w) in
      (c.choice.ensures ∙ k.0, k.1);
}

pub walk-returns : goal.walk-returns
walk-returns t c = record {
  whole = λ w. c.need.ensures.whole (c.name-byte.ensures.whole (c.name_behind-index.ensures.whole (c.need-2.ensures.whole (c.hold_or_it-over.ensures.whole (c.block-body.ensures.whole w)))));
  read = λ w.
      let w5 = c.block-body.ensures.whole w in
      let w4 = c.hold_or_it-over.ensures.whole w5 in
      let w3 = c.need-2.ensures.whole w4 in
      let w2 = c.name_behind-index.ensures.whole w3 in
      let w1 = c.name-byte.ensures.whole w2 in
      let k = walk_all c.args.depth _ _ _ _ _ _ _ _ _ _ _ (omega arith) (c.need.ensures.read w1) (c.name-byte.ensures.read w2) (c.name_behind-index.ensures.read w3)
      (c.need-2.ensures.read w4) (c.hold_or_it-over.ensures.read w5) (c.block-body.ensures.read w) in
      (c.walk.ensures ∙ k.0, k.1);
}

pub worded-returns-then-is-3 : goal.worded-returns-then-is-3
worded-returns-then-is-3 t c = record {
  whole = λ w. c.expr.ensures.read.whole (c.block.ensures.whole w);
  read = λ w.
      let w1 = c.block.ensures.whole w in
      let k = worded_while c.args.depth c.args.word.text.now _ _ _ _ _ (omega arith) (sym c.is.ensures ∙ c.if-is.false) (sym c.is-2.ensures ∙ c.if-is-2.false)
      (sym c.is-3.ensures ∙ c.if-is-3.true) (c.expr.ensures.read.read w1) (c.block.ensures.read w) in
      (c.repeat.ensures ∙ k.0, k.1);
}

pub worded-returns-then-is-4 : goal.worded-returns-then-is-4
worded-returns-then-is-4 t c = record {
  whole = c.block-then-is-4.ensures.whole;
  read = λ w.
      let k = worded_loop c.args.depth c.args.word.text.now _ _ _ (omega arith) (sym c.is.ensures ∙ c.if-is.false) (sym c.is-2.ensures ∙ c.if-is-2.false)
      (sym c.is-3.ensures ∙ c.if-is-3.false) (sym c.is-4.ensures ∙ c.if-is-4.true) (c.block-then-is-4.ensures.read w) in
      (c.repeat-then-is-4.ensures ∙ k.0, k.1);
}
