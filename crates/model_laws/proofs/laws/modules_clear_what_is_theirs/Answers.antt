use Rattle.model_laws.proofs.chains.OwnPools.{made_pools_are_own, others_keep_brigades}
use Rattle.model_laws.proofs.laws.modules_clear_what_is_theirs.Goals as goal

pub returns-clause-own : goal.returns-clause-own
returns-clause-own c = made_pools_are_own

pub returns-clause-brigades : goal.returns-clause-brigades
returns-clause-brigades c = others_keep_brigades
