use Rattle.std.proofs.Common.{refl, ap, ◌∙◌}
use Rattle.module_run.specs.Conns.{labels_handed}
use Rattle.run_model.specs.Worlds.{Labels, Refused}
use Rattle.script_text.specs.declared.reply.CommandReply.TheVariants as reply
use Rattle.script_play.proofs.Served.{close_served}
use Rattle.script_play.proofs.commands.close.Goals as goal

pub returns-in_ok-labels_of-in-Ok-clause-served : goal.returns-in_ok-labels_of-in-Ok-clause-served
returns-in_ok-labels_of-in-Ok-clause-served g c w hosts =
    let told = c.in_ok-labels_of-in-Ok.field-0 in
    let is = c.in_ok-labels_of-in-Ok.ensures ∙ ap labels_handed c.as_slice.ensures.value in
    close_served c.args.host.now c.close.new.self w (Labels (labels_handed c.in-Ok.runs.items)) (reply.Labels told) (ap reply.Labels is) c.args.number (c.in-Ok.ensures.event w hosts)

pub returns-in-Err-clause-served : goal.returns-in-Err-clause-served
returns-in-Err-clause-served g c w hosts =
    close_served c.args.host.now c.close.new.self w (Refused c.in-Err.refusal) (reply.Refused c.in-Err.refusal) refl c.args.number (c.in-Err.ensures.event w hosts)
