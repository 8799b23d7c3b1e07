use Rattle.std.proofs.Common.{ap, ◌∙◌}
use Rattle.author_text.specs.UnreadTokens.{tokens_at}
use Rattle.author_text.proofs.ReadExprLaws.{expr_again}
use Rattle.author_text.proofs.ReadingLaws.{uncounted}
use Rattle.author_text.proofs.parser.Parser.expr.Goals as goal

pub returns-clause-again : goal.returns-clause-again
returns-clause-again c = λ e ts f s q. record {
  whole = c.chain-expr.ensures.whole;
  read = λ w.
      let k = expr_again e _ ts _ _ f s q (c.chain-expr.ensures.read w) in
      (k.0, uncounted c.chain-expr.new.self ∙ ap (λ t. tokens_at t 0) k.1);
}
