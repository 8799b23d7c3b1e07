-- As the table.
use Rattle.std.proofs.Common.{rules}
use Rattle.module_lang.proofs.refusal.Code.number.Goals as goal

pub returns-in-TooMany : goal.returns-in-TooMany
returns-in-TooMany c = search rules
