use Rattle.model_laws.proofs.Registered.{step_registered}
use Rattle.model_laws.proofs.chains.Registered.{registered_in_runs}
use Rattle.model_laws.proofs.laws.brigades_are_registered.Goals as goal

pub returns-clause-step : goal.returns-clause-step
returns-clause-step c = step_registered

pub returns-clause-chains : goal.returns-clause-chains
returns-clause-chains c = registered_in_runs
