use Rattle.model_laws.proofs.CursorSteps.{made_are_new}
use Rattle.model_laws.proofs.laws.made_buckets_are_new.Goals as goal

pub returns : goal.returns
returns c = made_are_new
