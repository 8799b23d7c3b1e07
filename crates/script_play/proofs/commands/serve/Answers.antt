use Rattle.std.proofs.lemmas.Result.{IfOk-weaker}
use Rattle.module_run.specs.Happened.{refusal_of}
use Rattle.filter_chain.specs.Hosting.{done_answer}
use Rattle.script_play.proofs.Served.{begin_served, end_served}
use Rattle.script_play.proofs.commands.serve.Goals as goal

pub returns-in-Begin-clause-served : goal.returns-in-Begin-clause-served
returns-in-Begin-clause-served g c w hosts =
    rw c.in-Begin.is (begin_served c.args.host.now c.begin.new.self w (done_answer (refusal_of c.begin.result)) c.done.result c.done.ensures.told c.in-Begin.number (c.begin.ensures.event w hosts))

pub returns-in-End-clause-served : goal.returns-in-End-clause-served
returns-in-End-clause-served g c w hosts =
    rw c.in-End.is (end_served c.args.host.now c.end_request.new.self w (done_answer (refusal_of c.end_request.result)) c.done-in-End.result c.done-in-End.ensures.told c.in-End.number
    (c.end_request.ensures.event w hosts))

pub returns-in-Open : goal.returns-in-Open
returns-in-Open g c = rw c.in-Open.is (record { served = c.open.ensures.served; safe = λ safe. c.open.ensures.faultless })

pub returns-in-File : goal.returns-in-File
returns-in-File g c = rw c.in-File.is (record { served = c.file.ensures.served; safe = IfOk-weaker c.file.result _ _ (λ r well safe. well) c.file.ensures.faultless })

pub returns-in-Bring : goal.returns-in-Bring
returns-in-Bring g c = rw c.in-Bring.is (record { served = c.bring.ensures.served; safe = IfOk-weaker c.bring.result _ _ (λ r well safe. well) c.bring.ensures.faultless })

pub returns-in-Step : goal.returns-in-Step
returns-in-Step g c = rw c.in-Step.is (record { served = c.step.ensures.served; safe = c.step.ensures.safe })

pub returns-in-Run : goal.returns-in-Run
returns-in-Run g c = rw c.in-Run.is (record { served = c.run.ensures.served; safe = c.run.ensures.safe })

pub returns-in-Output : goal.returns-in-Output
returns-in-Output g c = rw c.in-Output.is (record { served = c.output.ensures.served; safe = λ safe. c.output.ensures.faultless })

pub returns-in-Labels : goal.returns-in-Labels
returns-in-Labels g c = rw c.in-Labels.is (record { served = c.labels.ensures.served; safe = IfOk-weaker c.labels.result _ _ (λ r well safe. well) c.labels.ensures.faultless })

pub returns-in-Close : goal.returns-in-Close
returns-in-Close g c = rw c.in-Close.is (record { served = c.close.ensures.served; safe = IfOk-weaker c.close.result _ _ (λ r well safe. well) c.close.ensures.faultless })

pub returns-in-Pools : goal.returns-in-Pools
returns-in-Pools g c = rw c.in-Pools.is (record { served = c.pools.ensures.served; safe = IfOk-weaker c.pools.result _ _ (λ r well safe. well) c.pools.ensures.faultless })
