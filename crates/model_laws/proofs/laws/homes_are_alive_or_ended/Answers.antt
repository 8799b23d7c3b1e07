use Rattle.model_laws.proofs.HomesAlive.{step_homes}
use Rattle.model_laws.proofs.laws.homes_are_alive_or_ended.Goals as goal

pub returns : goal.returns
returns c = record { step = step_homes }
