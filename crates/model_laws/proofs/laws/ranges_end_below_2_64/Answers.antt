use Rattle.model_laws.proofs.RangesEnd.{step_ends}
use Rattle.model_laws.proofs.chains.RangesEnd.{connection_step_ends, bring_ends, event_buckets_end, event_keeps_ends, run_ends_world}
use Rattle.model_laws.proofs.laws.ranges_end_below_2_64.Goals as goal

pub returns-clause-step : goal.returns-clause-step
returns-clause-step c = step_ends

pub returns-clause-connection : goal.returns-clause-connection
returns-clause-connection c = connection_step_ends

pub returns-clause-bring : goal.returns-clause-bring
returns-clause-bring c = bring_ends

pub returns-clause-buckets : goal.returns-clause-buckets
returns-clause-buckets c = event_buckets_end

pub returns-clause-event : goal.returns-clause-event
returns-clause-event c = event_keeps_ends

pub returns-clause-run : goal.returns-clause-run
returns-clause-run c = run_ends_world
