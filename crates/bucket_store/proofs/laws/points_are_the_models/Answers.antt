use Rattle.bucket_store.proofs.Parts as parts
use Rattle.bucket_store.proofs.laws.points_are_the_models.Goals as goal

pub returns : goal.returns
returns c = parts.points_are_the_models
