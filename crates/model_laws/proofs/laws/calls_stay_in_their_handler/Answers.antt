use Rattle.model_laws.proofs.chains.Handlers.{calls_begin, step_stays_in_handler, run_places_calls}
use Rattle.model_laws.proofs.laws.calls_stay_in_their_handler.Goals as goal

pub returns-clause-begins : goal.returns-clause-begins
returns-clause-begins c = calls_begin

pub returns-clause-step : goal.returns-clause-step
returns-clause-step c = step_stays_in_handler

pub returns-clause-run : goal.returns-clause-run
returns-clause-run c = run_places_calls
