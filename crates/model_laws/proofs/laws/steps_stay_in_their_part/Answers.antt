use Rattle.model_laws.proofs.parts.Steps.{steps_alike}
use Rattle.model_laws.proofs.parts.Alike.{faults_alike, names_alike}
use Rattle.model_laws.proofs.parts.Spared.{steps_spare}
use Rattle.model_laws.proofs.parts.Tops.{top_alike}
use Rattle.model_laws.proofs.laws.steps_stay_in_their_part.Goals as goal

pub returns-clause-steps : goal.returns-clause-steps
returns-clause-steps c = steps_alike

pub returns-clause-top : goal.returns-clause-top
returns-clause-top c = top_alike

pub returns-clause-faults : goal.returns-clause-faults
returns-clause-faults c = faults_alike

pub returns-clause-names : goal.returns-clause-names
returns-clause-names c = names_alike

pub returns-clause-others : goal.returns-clause-others
returns-clause-others c = steps_spare
