use Rattle.model_laws.proofs.chains.Others.{others_stay, opening_stays}
use Rattle.model_laws.proofs.laws.connections_stay_apart.Goals as goal

pub returns-clause-others : goal.returns-clause-others
returns-clause-others c = others_stay

pub returns-clause-opening : goal.returns-clause-opening
returns-clause-opening c = opening_stays
