use Rattle.life_cert.proofs.OneState.{one_state}
use Rattle.life_cert.proofs.laws.texts_tell_states.Goals as goal

pub returns : goal.returns
returns c = one_state
