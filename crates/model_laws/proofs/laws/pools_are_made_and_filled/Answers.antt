use Rattle.model_laws.proofs.Filled.{creates_keep_others, kills_the_newest, kills_one_label}
use Rattle.model_laws.proofs.laws.pools_are_made_and_filled.Goals as goal

pub returns-clause-made : goal.returns-clause-made
returns-clause-made c = creates_keep_others

pub returns-clause-killed : goal.returns-clause-killed
returns-clause-killed c = kills_the_newest

pub returns-clause-one : goal.returns-clause-one
returns-clause-one c = kills_one_label
