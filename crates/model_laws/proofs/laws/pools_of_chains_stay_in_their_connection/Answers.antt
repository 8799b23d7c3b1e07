use Rattle.model_laws.proofs.chains.Paths.{paths_in_runs}
use Rattle.model_laws.proofs.laws.pools_of_chains_stay_in_their_connection.Goals as goal

pub returns : goal.returns
returns c = paths_in_runs
