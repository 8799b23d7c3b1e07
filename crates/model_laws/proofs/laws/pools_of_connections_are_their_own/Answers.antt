use Rattle.model_laws.proofs.chains.PoolsApart.{event_keeps_pools_apart, run_keeps_pools_apart}
use Rattle.model_laws.proofs.chains.Trees.{joined_is_formed, reached_parts_join}
use Rattle.model_laws.proofs.chains.TreeParts.{reached_tree}
use Rattle.model_laws.proofs.laws.pools_of_connections_are_their_own.Goals as goal

pub returns-clause-event : goal.returns-clause-event
returns-clause-event c = event_keeps_pools_apart

pub returns-clause-run : goal.returns-clause-run
returns-clause-run c = run_keeps_pools_apart

pub returns-clause-formed : goal.returns-clause-formed
returns-clause-formed c = joined_is_formed

pub returns-clause-joins : goal.returns-clause-joins
returns-clause-joins c = reached_parts_join

pub returns-clause-tree : goal.returns-clause-tree
returns-clause-tree c = reached_tree
