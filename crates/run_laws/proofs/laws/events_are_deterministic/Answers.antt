use Rattle.run_laws.proofs.RunOnce.{events_are_deterministic, events_keep_files_known}
use Rattle.run_laws.proofs.laws.events_are_deterministic.Goals as goal

pub returns-clause-deterministic : goal.returns-clause-deterministic
returns-clause-deterministic c = events_are_deterministic

pub returns-clause-known : goal.returns-clause-known
returns-clause-known c = events_keep_files_known
