-- Each state that arrives is joined to the one that is there; and what states say is bounded.
use Rattle.life_cert.proofs.RoundsFit.{states_only_grow}
use Rattle.life_cert.proofs.Enough.{rounds_end}
use Rattle.life_cert.proofs.laws.rounds_grow_and_end.Goals as goal

pub returns-clause-grow : goal.returns-clause-grow
returns-clause-grow c = states_only_grow

pub returns-clause-end : goal.returns-clause-end
returns-clause-end c = rounds_end
