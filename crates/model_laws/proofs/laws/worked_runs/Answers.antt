use Rattle.model_laws.proofs.Examples.{runs}
use Rattle.model_laws.proofs.laws.worked_runs.Goals as goal

pub returns-clause-passes : goal.returns-clause-passes
returns-clause-passes c = runs.pass_runs

pub returns-clause-pools : goal.returns-clause-pools
returns-clause-pools c = runs.pool_runs

pub returns-clause-pool_ends : goal.returns-clause-pool_ends
returns-clause-pool_ends c = runs.pool_ends

pub returns-clause-kinds : goal.returns-clause-kinds
returns-clause-kinds c = runs.kind_runs

pub returns-clause-faults : goal.returns-clause-faults
returns-clause-faults c = runs.fault_runs

pub returns-clause-breaks : goal.returns-clause-breaks
returns-clause-breaks c = runs.break_runs

pub returns-clause-refusals : goal.returns-clause-refusals
returns-clause-refusals c = runs.refused_runs

pub returns-clause-names : goal.returns-clause-names
returns-clause-names c = runs.name_runs

pub returns-clause-held_faults : goal.returns-clause-held_faults
returns-clause-held_faults c = runs.held_faults

pub returns-clause-held_changes : goal.returns-clause-held_changes
returns-clause-held_changes c = runs.held_changes
