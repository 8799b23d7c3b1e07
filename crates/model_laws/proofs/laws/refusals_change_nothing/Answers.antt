use Rattle.model_laws.proofs.Refusals.{refused_changes_nothing, refused_step_breaks, fault_breaks, broken_stays_broken}
use Rattle.model_laws.proofs.laws.refusals_change_nothing.Goals as goal

pub returns-clause-event : goal.returns-clause-event
returns-clause-event c = refused_changes_nothing

pub returns-clause-step : goal.returns-clause-step
returns-clause-step c = refused_step_breaks

pub returns-clause-fault : goal.returns-clause-fault
returns-clause-fault c = fault_breaks

pub returns-clause-broken : goal.returns-clause-broken
returns-clause-broken c = broken_stays_broken
