use Rattle.model_laws.proofs.chains.CallsKept.{calls_in_runs}
use Rattle.model_laws.proofs.laws.calls_of_chains_stay_sound.Goals as goal

pub returns : goal.returns
returns c = calls_in_runs
