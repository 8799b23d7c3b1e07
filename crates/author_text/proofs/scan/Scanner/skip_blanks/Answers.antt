use Rattle.std.proofs.Common.{◌≡◌, ◌∙◌, true, arith}
use Rattle.author_text.specs.TextTokens.{tokens_behind}
use Rattle.author_text.proofs.JudgeLaws.{judged_more}
use Rattle.author_text.proofs.scan.Scanner.skip_blanks.Goals as goal

pub loop-preserved : goal.loop-preserved
loop-preserved c =
    let start = c.args.self.now.rest.now in
    let rest = c.loop.self.rest.now in
    let left = c.skip_blank.new.self.rest.now in
    let yes : c.skip_blank.result ≡ true = cc in
    record {
      kept = λ r e. c.skip_blank.ensures.kept r (c.loop.invariant.kept r e);
      passed = λ clear.
          judged_more (tokens_behind 0 start ≡ tokens_behind 0 rest) (tokens_behind 0 rest ≡ tokens_behind 0 left) (tokens_behind 0 start ≡ tokens_behind 0 left)
          c.loop.self.faults c.skip_blank.new.self.faults start rest c.skip_blank.ensures.kept (c.loop.invariant.passed clear) (λ e p. c.skip_blank.ensures.passed e yes) (λ p q. p ∙ q)
          (λ p n. p ∙ n);
      shorter = omega (arith, c.skip_blank.ensures.shorter yes, c.loop.invariant.shorter);
    }
