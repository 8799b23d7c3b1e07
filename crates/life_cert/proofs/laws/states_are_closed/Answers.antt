-- Round by round.
use Rattle.life_cert.proofs.Closed.{states_are_closed}
use Rattle.life_cert.proofs.laws.states_are_closed.Goals as goal

pub returns : goal.returns
returns c = states_are_closed
