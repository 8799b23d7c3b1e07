use Rattle.model_laws.proofs.Clears.{clears_keep_others, clears_take_along}
use Rattle.model_laws.proofs.laws.clears_take_what_lies_under.Goals as goal

pub returns-clause-pools : goal.returns-clause-pools
returns-clause-pools c = clears_keep_others

pub returns-clause-brigades : goal.returns-clause-brigades
returns-clause-brigades c = clears_take_along
