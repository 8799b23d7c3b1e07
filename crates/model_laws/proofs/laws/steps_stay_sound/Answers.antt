use Rattle.model_laws.proofs.NamesStay.{names_stay}
use Rattle.model_laws.proofs.StepNames.{step_gives, step_names}
use Rattle.model_laws.proofs.StepBuckets.{step_buckets}
use Rattle.model_laws.proofs.StepPools.{step_pools}
use Rattle.model_laws.proofs.laws.steps_stay_sound.Goals as goal

pub returns-clause-new_names : goal.returns-clause-new_names
returns-clause-new_names c = step_gives

pub returns-clause-single : goal.returns-clause-single
returns-clause-single c = names_stay

pub returns-clause-names : goal.returns-clause-names
returns-clause-names c = step_names

pub returns-clause-buckets : goal.returns-clause-buckets
returns-clause-buckets c = step_buckets

pub returns-clause-pools : goal.returns-clause-pools
returns-clause-pools c = step_pools
