use Rattle.run_model.specs.RunOrder.{pre_run, own_run}
use Rattle.run_model.proofs.RunOrderLaws.{run_order_once, run_deep}
use Rattle.model_laws.proofs.laws.run_orders_hold_each_payload_once.Goals as goal

pub returns-clause-once : goal.returns-clause-once
unfolding pre_run own_run
returns-clause-once c = λ n p ps formed live. run_order_once ps formed n p live

pub returns-clause-depth : goal.returns-clause-depth
returns-clause-depth c = λ depth p ps formed live deep. run_deep ps formed depth p deep live
