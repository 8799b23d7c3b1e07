-- By what hands states on.
use Rattle.life_cert.proofs.RoundsFormed.{states_are_formed}
use Rattle.life_cert.proofs.laws.states_are_formed.Goals as goal

pub returns : goal.returns
returns c = states_are_formed
