use Rattle.model_laws.proofs.AsDeclared.{step_declared}
use Rattle.model_laws.proofs.laws.variables_stand_as_declared.Goals as goal

pub returns : goal.returns
returns c = record { step = step_declared }
