use Rattle.std.proofs.Common.{refl}
use Rattle.author_text.proofs.ReadingLaws.{refuses}
use Rattle.author_text.proofs.parser.Parser.says_at.Goals as goal

pub returns : goal.returns
returns c = record { whole = c.says.ensures.whole; read = λ w. refuses c.args.self.now _ (c.says.ensures.some w) refl }
