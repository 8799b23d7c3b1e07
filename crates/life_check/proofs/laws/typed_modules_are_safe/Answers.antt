use Rattle.life_check.proofs.alone.Safe.{typed_is_safe}
use Rattle.life_check.proofs.laws.typed_modules_are_safe.Goals as goal

pub returns : goal.returns
returns c = typed_is_safe
