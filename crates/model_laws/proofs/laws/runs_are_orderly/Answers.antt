use Rattle.model_laws.proofs.chains.Order.{event_keeps_order, run_keeps_order}
use Rattle.model_laws.proofs.laws.runs_are_orderly.Goals as goal

pub returns-clause-event : goal.returns-clause-event
returns-clause-event c = event_keeps_order

pub returns-clause-run : goal.returns-clause-run
returns-clause-run c = run_keeps_order
