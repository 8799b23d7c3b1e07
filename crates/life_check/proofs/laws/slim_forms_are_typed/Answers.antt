use Rattle.life_check.proofs.SlimTyped.{slim_is_typed}
use Rattle.life_check.proofs.laws.slim_forms_are_typed.Goals as goal

pub returns : goal.returns
returns c = slim_is_typed
