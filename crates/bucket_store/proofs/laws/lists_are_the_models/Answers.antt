use Rattle.bucket_store.proofs.Models as models
use Rattle.bucket_store.proofs.laws.lists_are_the_models.Goals as goal

pub returns : goal.returns
returns c = models.lists_are_the_models
