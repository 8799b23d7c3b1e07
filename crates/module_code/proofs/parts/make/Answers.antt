-- The operands are in the order of the text.
use Rattle.std.proofs.Common.{rules}
use Rattle.module_code.proofs.parts.make.Goals as goal

pub returns-in-BSave : goal.returns-in-BSave
returns-in-BSave c = search rules
