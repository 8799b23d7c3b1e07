-- As the table of the model.
use Rattle.std.proofs.Common.{rules}
use Rattle.run_model.proofs.effect.effect_of.Goals as goal

pub returns-in-Tail : goal.returns-in-Tail
returns-in-Tail c = search rules
