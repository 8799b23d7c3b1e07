use Rattle.model_laws.proofs.chains.FilesApart.{event_keeps_files_apart, run_keeps_files_apart}
use Rattle.model_laws.proofs.laws.files_of_chains_are_apart.Goals as goal

pub returns-clause-event : goal.returns-clause-event
returns-clause-event c = event_keeps_files_apart

pub returns-clause-run : goal.returns-clause-run
returns-clause-run c = run_keeps_files_apart
