use Rattle.model_laws.proofs.ChainExamples.{chain_runs}
use Rattle.model_laws.proofs.laws.worked_chains.Goals as goal

pub returns : goal.returns
returns c = chain_runs
