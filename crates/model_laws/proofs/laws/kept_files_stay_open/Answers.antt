use Rattle.model_laws.proofs.StepFiles.{step_files}
use Rattle.model_laws.proofs.laws.kept_files_stay_open.Goals as goal

pub returns : goal.returns
returns c = step_files
