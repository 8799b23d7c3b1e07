use Rattle.model_laws.proofs.chains.Numbers.{event_keeps_numbers, run_keeps_numbers}
use Rattle.model_laws.proofs.laws.connections_are_numbered.Goals as goal

pub returns-clause-event : goal.returns-clause-event
returns-clause-event c = event_keeps_numbers

pub returns-clause-run : goal.returns-clause-run
returns-clause-run c = run_keeps_numbers
