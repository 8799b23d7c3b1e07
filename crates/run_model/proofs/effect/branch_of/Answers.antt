-- As the table of the model.
use Rattle.std.proofs.Common.{rules}
use Rattle.run_model.proofs.effect.branch_of.Goals as goal

pub returns-in-Pass : goal.returns-in-Pass
returns-in-Pass c = search rules
