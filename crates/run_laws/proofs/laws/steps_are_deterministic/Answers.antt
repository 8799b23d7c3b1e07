use Rattle.run_laws.proofs.RunOnce.{steps_are_deterministic, steps_keep_files_known}
use Rattle.run_laws.proofs.laws.steps_are_deterministic.Goals as goal

pub returns-clause-deterministic : goal.returns-clause-deterministic
returns-clause-deterministic c = steps_are_deterministic

pub returns-clause-known : goal.returns-clause-known
returns-clause-known c = steps_keep_files_known
