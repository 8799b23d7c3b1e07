use Rattle.filter_chain.proofs.Faultless.{reached_calls_are_faultless}
use Rattle.filter_chain.proofs.laws.calls_of_checked_chains_are_faultless.Goals as goal

pub returns : goal.returns
returns c = reached_calls_are_faultless
