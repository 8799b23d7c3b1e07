use Rattle.model_laws.proofs.alone.KeptHomes.{open_runs_keep_homes}
use Rattle.model_laws.proofs.alone.Kept.{open_runs_stay_sound}
use Rattle.model_laws.proofs.alone.Passing.{passed_may_be_brought}
use Rattle.model_laws.proofs.laws.open_runs_stay_sound.Goals as goal

pub returns-clause-sound : goal.returns-clause-sound
returns-clause-sound c = open_runs_stay_sound

pub returns-clause-passes : goal.returns-clause-passes
returns-clause-passes c = passed_may_be_brought

pub returns-clause-homes : goal.returns-clause-homes
returns-clause-homes c = open_runs_keep_homes
