use Rattle.filter_chain.proofs.Unfaulted.{reached_connections_are_unfaulted}
use Rattle.filter_chain.proofs.laws.connections_of_checked_chains_are_unfaulted.Goals as goal

pub returns : goal.returns
returns c = reached_connections_are_unfaulted
