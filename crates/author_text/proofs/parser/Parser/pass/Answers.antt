use Rattle.std.proofs.Common.{refl}
use Rattle.author_text.proofs.ReadingLaws.{passes, passes_none}
use Rattle.author_text.proofs.parser.Parser.pass.Goals as goal

pub returns-then-self : goal.returns-then-self
returns-then-self c = record { whole = λ w. w; read = λ w. passes c.args.self.now _ refl refl refl refl }

pub returns-else-self : goal.returns-else-self
returns-else-self c = record { whole = λ w. w; read = λ w. passes_none c.args.self.now c.if-self.false }
