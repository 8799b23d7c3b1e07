use Rattle.std.proofs.Common.{◌≡◌, true, subst, ◌+◌}
use Rattle.author_text.specs.Scanning.{Advances, FindsSoFar}
use Rattle.author_text.proofs.JudgeLaws.{finds_more, judged_more, none_more}
use Rattle.author_text.proofs.scan.Scanner.all_tokens.Goals as goal

pub loop-preserved : goal.loop-preserved
loop-preserved c =
    let start = c.args.self.now.rest.now in
    let rest = c.loop.self.rest.now in
    let left = c.next_token.new.self.rest.now in
    let old = c.args.found.now.items in
    let mid = c.loop.found.items in
    let new = c.next_token.new.found.items in
    let yes : c.next_token.result ≡ true = cc in
    record {
      kept = λ r e. c.next_token.ensures.kept r (c.loop.invariant.kept r e);
      passed = λ clear.
          judged_more (FindsSoFar old mid start rest c.loop.counter) (Advances c.next_token.result mid new rest left) (FindsSoFar old new start left (c.loop.counter + 1))
          c.loop.self.faults c.next_token.new.self.faults start rest c.next_token.ensures.kept (c.loop.invariant.passed clear) (λ e p. c.next_token.ensures.passed e)
          (λ p q. finds_more old mid new start rest left c.loop.counter p (subst (λ v. Advances v mid new rest left) yes q)) (λ p n. none_more old mid start rest c.loop.counter p n);
    }
