use Rattle.model_laws.proofs.chains.LeftTree.{begins_leave, brings_leave, ends_leave, opens_file_leave, steps_leave}
use Rattle.model_laws.proofs.chains.OpenedTree.{closing_takes, opening_plants}
use Rattle.model_laws.proofs.chains.OverTree.{reached_lies_over}
use Rattle.model_laws.proofs.laws.connections_share_the_tree.Goals as goal

pub returns-clause-lies : goal.returns-clause-lies
returns-clause-lies c = reached_lies_over

pub returns-clause-steps : goal.returns-clause-steps
returns-clause-steps c = steps_leave

pub returns-clause-begins : goal.returns-clause-begins
returns-clause-begins c = begins_leave

pub returns-clause-brings : goal.returns-clause-brings
returns-clause-brings c = brings_leave

pub returns-clause-opens_file : goal.returns-clause-opens_file
returns-clause-opens_file c = opens_file_leave

pub returns-clause-ends : goal.returns-clause-ends
returns-clause-ends c = ends_leave

pub returns-clause-opens : goal.returns-clause-opens
returns-clause-opens c = opening_plants

pub returns-clause-closes : goal.returns-clause-closes
returns-clause-closes c = closing_takes
