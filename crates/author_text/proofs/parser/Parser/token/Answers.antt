use Rattle.std.proofs.Common.{◌∙◌}
use Rattle.author_text.proofs.ReadingLaws.{got_next, got_past, got_fault}
use Rattle.author_text.proofs.parser.Parser.token.Goals as goal

pub returns-then-is_any : goal.returns-then-is_any
returns-then-is_any c = λ w. c.end_token.ensures ∙ got_fault c.args.self.now _ c.is_any.ensures.any c.if-is_any.true w

pub returns-then-self : goal.returns-then-self
returns-then-self c = λ w. got_next c.args.self.now _ _ c.is_any.ensures.any c.if-is_any.false c.if-self.true

pub returns : goal.returns
returns c = λ w. c.end_token-2.ensures ∙ got_past c.args.self.now _ c.is_any.ensures.any c.if-is_any.false c.if-self.false
