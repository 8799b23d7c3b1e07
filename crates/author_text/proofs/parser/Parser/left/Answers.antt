use Rattle.std.proofs.Common.{arith}
use Rattle.author_text.proofs.ReadingLaws.{counts, counts_none}
use Rattle.author_text.proofs.parser.Parser.left.Goals as goal

pub returns-then-is_any : goal.returns-then-is_any
returns-then-is_any c = λ w. omega (arith, counts_none c.args.self.now _ c.is_any.ensures.any c.if-is_any.true w)

pub returns : goal.returns
returns c = λ w. omega (arith, counts c.args.self.now _ c.is_any.ensures.any c.if-is_any.false, c.saturating_sub.ensures)
