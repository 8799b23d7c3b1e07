use Rattle.model_laws.proofs.chains.StepRuns.{steps_go_on, steps_are_a_run, ended_steps_are_a_run}
use Rattle.model_laws.proofs.laws.runs_go_on.Goals as goal

pub returns-clause-step : goal.returns-clause-step
returns-clause-step c = steps_go_on

pub returns-clause-steps : goal.returns-clause-steps
returns-clause-steps c = steps_are_a_run

pub returns-clause-ended : goal.returns-clause-ended
returns-clause-ended c = ended_steps_are_a_run
