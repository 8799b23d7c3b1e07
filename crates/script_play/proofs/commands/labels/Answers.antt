use Rattle.std.proofs.Common.{refl, ap}
use Rattle.module_run.specs.Conns.{labels_handed}
use Rattle.run_model.specs.Worlds.{Labels, Refused}
use Rattle.script_text.specs.declared.reply.CommandReply.TheVariants as reply
use Rattle.script_play.proofs.Served.{labels_served}
use Rattle.script_play.proofs.commands.labels.Goals as goal

pub returns-in_ok-labels_of-in-Ok-clause-served : goal.returns-in_ok-labels_of-in-Ok-clause-served
returns-in_ok-labels_of-in-Ok-clause-served g c w hosts =
    let told = c.in_ok-labels_of-in-Ok.field-0 in
    labels_served c.args.host.now c.args.host.now w (Labels (labels_handed c.in-Ok.runs.now)) (reply.Labels told) (ap reply.Labels c.in_ok-labels_of-in-Ok.ensures) c.args.number
    (c.in-Ok.ensures.told w hosts)

pub returns-in-Err-clause-served : goal.returns-in-Err-clause-served
returns-in-Err-clause-served g c w hosts =
    labels_served c.args.host.now c.args.host.now w (Refused c.in-Err.refusal) (reply.Refused c.in-Err.refusal) refl c.args.number (c.in-Err.ensures.missing w hosts)
