use Rattle.model_laws.proofs.StepRanges.{step_ranges}
use Rattle.model_laws.proofs.chains.Ranges.{event_keeps_ranges, run_keeps_ranges}
use Rattle.model_laws.proofs.laws.ranges_lie_in_their_files.Goals as goal

pub returns-clause-step : goal.returns-clause-step
returns-clause-step c = step_ranges

pub returns-clause-event : goal.returns-clause-event
returns-clause-event c = event_keeps_ranges

pub returns-clause-run : goal.returns-clause-run
returns-clause-run c = run_keeps_ranges
