use Rattle.model_laws.proofs.Unchanged.{step_changes_only}
use Rattle.model_laws.proofs.laws.steps_change_only_what_they_name.Goals as goal

pub returns : goal.returns
returns c = step_changes_only
