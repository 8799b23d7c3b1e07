-- Part by part.
use Rattle.life_state.proofs.OrderLaws.{leq_says, leq_holds, leq_same, leq_trans}
use Rattle.life_state.proofs.FormOrder.{leq_both}
use Rattle.life_state.proofs.laws.states_are_ordered.Goals as goal

pub returns-clause-says : goal.returns-clause-says
returns-clause-says c = leq_says

pub returns-clause-holds : goal.returns-clause-holds
returns-clause-holds c = leq_holds

pub returns-clause-reflexive : goal.returns-clause-reflexive
returns-clause-reflexive c = leq_same

pub returns-clause-transitive : goal.returns-clause-transitive
returns-clause-transitive c = leq_trans

pub returns-clause-antisymmetric : goal.returns-clause-antisymmetric
returns-clause-antisymmetric c = leq_both
