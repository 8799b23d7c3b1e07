use Rattle.model_laws.proofs.InRange.{step_in_range, step_buffer}
use Rattle.model_laws.proofs.chains.CallBuffers.{event_buffers, run_buffers}
use Rattle.model_laws.proofs.chains.InRange.{event_in_range, run_of_bytes, run_in_range}
use Rattle.model_laws.proofs.laws.numbers_stay_in_range.Goals as goal

pub returns-clause-step : goal.returns-clause-step
returns-clause-step c = step_in_range

pub returns-clause-buffer_step : goal.returns-clause-buffer_step
returns-clause-buffer_step c = step_buffer

pub returns-clause-event : goal.returns-clause-event
returns-clause-event c = event_in_range

pub returns-clause-runs : goal.returns-clause-runs
returns-clause-runs c = run_of_bytes

pub returns-clause-run : goal.returns-clause-run
returns-clause-run c = run_in_range

pub returns-clause-buffer_event : goal.returns-clause-buffer_event
returns-clause-buffer_event c = event_buffers

pub returns-clause-buffer_run : goal.returns-clause-buffer_run
returns-clause-buffer_run c = run_buffers
