use Rattle.std.proofs.Common.{◌≡◌, true, false, refl, sym, ◌∙◌, arith, rules}
use Rattle.author_text.specs.declared.operators.Level.TheVariants as level
use Rattle.author_text.specs.ReadExprs.{read_operand}
use Rattle.author_text.proofs.ReadExprSteps.{asked_size, asked_empty, asked_has, named_name, named_look, operand_not, unit_number, chain_more, chain_done}
use Rattle.author_text.proofs.parser.Parser.+exprs.Goals as goal

pub asked-returns-then-eat : goal.asked-returns-then-eat
asked-returns-then-eat t c = record {
  whole = λ w. c.eat.ensures.whole (c.need.ensures.whole (c.hold_or_it-of.ensures.whole (c.need-then-eat.ensures.whole w)));
  read = λ w.
      let w2 = c.need-then-eat.ensures.whole w in
      let w1 = c.hold_or_it-of.ensures.whole w2 in
      let w0 = c.need.ensures.whole w1 in
      let k = asked_size c.args.depth _ _ _ _ _ _ _ (omega arith) (c.eat.ensures.read w0) c.if-eat.true (c.need.ensures.read w1) (c.hold_or_it-of.ensures.read w2) (c.need-then-eat.ensures.read w) in
      (c.size_of.ensures ∙ k.0, k.1);
}

pub asked-returns-then-eat-2 : goal.asked-returns-then-eat-2
asked-returns-then-eat-2 t c = record {
  whole = λ w. c.eat.ensures.whole (c.eat-2.ensures.whole (c.hold_after_bracket-hold.ensures.whole (c.need-then-eat-2.ensures.whole w)));
  read = λ w.
      let w2 = c.need-then-eat-2.ensures.whole w in
      let w1 = c.hold_after_bracket-hold.ensures.whole w2 in
      let w0 = c.eat-2.ensures.whole w1 in
      let k = asked_empty c.args.depth _ _ _ _ _ _ _ _ (omega arith) (c.eat.ensures.read w0) c.if-eat.false (c.eat-2.ensures.read w1) c.if-eat-2.true
      (c.hold_after_bracket-hold.ensures.read w2) (c.need-then-eat-2.ensures.read w) in
      (c.empty_of.ensures ∙ k.0, k.1);
}

pub asked-returns : goal.asked-returns
asked-returns t c = record {
  whole = λ w.
      c.eat.ensures.whole (c.eat-2.ensures.whole (c.eat-3.ensures.whole (c.hold_after_bracket-hold-2.ensures.whole (c.need-2.ensures.whole (c.inner-size.ensures.whole (c.has.ensures.whole w))))));
  read = λ w.
      let w6 = c.has.ensures.whole w in
      let w5 = c.inner-size.ensures.whole w6 in
      let w4 = c.need-2.ensures.whole w5 in
      let w3 = c.hold_after_bracket-hold-2.ensures.whole w4 in
      let w2 = c.eat-3.ensures.whole w3 in
      let w1 = c.eat-2.ensures.whole w2 in
      let b : c.eat-3.result ≡ true = grind arith in
      asked_has c.args.depth _ _ _ _ _ _ _ _ _ _ _ _ _ _ (omega arith) (c.eat.ensures.read w1) c.if-eat.false (c.eat-2.ensures.read w2) c.if-eat-2.false
      (c.eat-3.ensures.read w3) b (c.hold_after_bracket-hold-2.ensures.read w4) (c.need-2.ensures.read w5) (c.inner-size.ensures.read w6) (c.has.ensures.read w);
}

pub chain-loop-preserved : goal.chain-loop-preserved
chain-loop-preserved t c = record {
  below = c.loop.invariant.below;
  level = refl;
  whole = λ w.
      c.loop.invariant.whole (c.count_operator.ensures.whole (c.take.ensures.whole (c.operand-right.ensures.whole (c.binary-left.ensures.whole (c.check_unchained.ensures.whole w)))));
  read = λ w.
      let w4 = c.check_unchained.ensures.whole w in
      let w3 = c.binary-left.ensures.whole w4 in
      let w2 = c.operand-right.ensures.whole w3 in
      let w1 = c.take.ensures.whole w2 in
      let w0 = c.count_operator.ensures.whole w1 in
      chain_more (read_operand _ _) _ _ _ _ _ _ _ _ _ _ _ _ _ _ c.loop-test.true (sym (c.operator.ensures w0) ∙ c.in-Some.is) (c.count_operator.ensures.read w1)
      (c.take.ensures.read w2).1 (c.operand-right.ensures.read w3) (c.binary-left.ensures.read w4) (c.check_unchained.ensures.read w) (c.loop.invariant.read w0);
}

pub chain-returns-in_default : goal.chain-returns-in_default
chain-returns-in_default t c = record {
  whole = c.loop.invariant.whole;
  read = λ w. chain_done (read_operand _ _) _ _ _ _ _ (sym (c.operator.ensures w) ∙ c.in_default.is) (c.loop.invariant.read w);
}

pub named-returns-then-not-eat : goal.named-returns-then-not-eat
named-returns-then-not-eat t c = record {
  whole = λ w. c.name-name.ensures.whole (c.eat.ensures.whole w);
  read = λ w.
      let w0 = c.eat.ensures.whole w in
      let b : c.eat.result ≡ false = grind arith in
      let k = named_name c.args.depth _ _ _ _ _ (omega arith) (c.name-name.ensures.read w0) (c.eat.ensures.read w) b in
      (c.variable.ensures ∙ k.0, k.1);
}

pub named-returns : goal.named-returns
named-returns t c = record {
  whole = λ w. c.name-name.ensures.whole (c.eat.ensures.whole (c.inner-index.ensures.whole (c.look.ensures.whole w)));
  read = λ w.
      let w2 = c.look.ensures.whole w in
      let w1 = c.inner-index.ensures.whole w2 in
      let w0 = c.eat.ensures.whole w1 in
      let b : c.eat.result ≡ true = grind arith in
      named_look c.args.depth _ _ _ _ _ _ _ _ _ (omega arith) (c.name-name.ensures.read w0) (c.eat.ensures.read w1) b (c.inner-index.ensures.read w2) (c.look.ensures.read w);
}

pub operand-returns-then-at : goal.operand-returns-then-at
operand-returns-then-at t c =
    let is : c.args.level ≡ level.Compare = search rules in
    record {
      whole = λ w. c.take.ensures.whole (c.chain-of.ensures.whole (c.negation.ensures.whole w));
      read = λ w.
          let w2 = c.negation.ensures.whole w in
          let w1 = c.chain-of.ensures.whole w2 in
          let w0 = c.take.ensures.whole w1 in
          operand_not c.args.depth c.args.level _ _ _ _ _ _ _ (omega arith) is (c.at.ensures w0) c.if-at.true (c.take.ensures.read w1).1 (c.chain-of.ensures.read w2) (c.negation.ensures.read w);
    }

pub unit-returns-in-Number : goal.unit-returns-in-Number
unit-returns-in-Number t c = record {
  whole = c.take.ensures.whole;
  read = λ w.
      let w0 = c.take.ensures.whole w in
      let k = unit_number c.args.depth _ _ _ _ _ (omega arith) (c.token-token.ensures w0) c.in-Number.is (c.take.ensures.read w).1 in
      (c.number_at.ensures ∙ k.0, k.1);
}
