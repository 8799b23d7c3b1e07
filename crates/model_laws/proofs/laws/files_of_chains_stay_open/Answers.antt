use Rattle.model_laws.proofs.chains.FilesKept.{files_in_runs}
use Rattle.model_laws.proofs.laws.files_of_chains_stay_open.Goals as goal

pub returns : goal.returns
returns c = files_in_runs
