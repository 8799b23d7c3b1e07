use Rattle.model_laws.proofs.chains.Reached.{new_is_reached, event_reaches, world_run_goes_on, reached_holds}
use Rattle.model_laws.proofs.laws.reached_worlds_go_on.Goals as goal

pub returns-clause-new : goal.returns-clause-new
returns-clause-new c = new_is_reached

pub returns-clause-event : goal.returns-clause-event
returns-clause-event c = event_reaches

pub returns-clause-run : goal.returns-clause-run
returns-clause-run c = world_run_goes_on

pub returns-clause-laws : goal.returns-clause-laws
returns-clause-laws c = reached_holds
