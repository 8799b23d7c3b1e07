use Rattle.model_laws.proofs.chains.Homes.{homes_in_runs}
use Rattle.model_laws.proofs.laws.homes_of_chains_are_alive_or_ended.Goals as goal

pub returns : goal.returns
returns c = homes_in_runs
