use Rattle.model_laws.proofs.RefusalOrder.{first_is_told, no_connection_is_told, steps_tell, busy_does_not_end, only_memory_refuses_close}
use Rattle.model_laws.proofs.laws.first_refusals_are_told.Goals as goal

pub returns-clause-told : goal.returns-clause-told
returns-clause-told c = first_is_told

pub returns-clause-connection : goal.returns-clause-connection
returns-clause-connection c = no_connection_is_told

pub returns-clause-step : goal.returns-clause-step
returns-clause-step c = steps_tell

pub returns-clause-end : goal.returns-clause-end
returns-clause-end c = busy_does_not_end

pub returns-clause-close : goal.returns-clause-close
returns-clause-close c = only_memory_refuses_close
