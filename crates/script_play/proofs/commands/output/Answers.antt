use Rattle.std.proofs.Common.{refl}
use Rattle.run_model.specs.Worlds.{Output, Refused}
use Rattle.script_text.specs.declared.reply.CommandReply.TheVariants as reply
use Rattle.script_play.proofs.Served.{output_served}
use Rattle.script_play.proofs.commands.output.Goals as goal

pub returns-in-Ok-clause-served : goal.returns-in-Ok-clause-served
returns-in-Ok-clause-served g c w hosts =
    output_served c.args.host.now c.take_output.new.self w (Output c.in-Ok.bytes) (reply.Output c.in-Ok.bytes) refl c.args.number (c.in-Ok.ensures.event w hosts)

pub returns-in-Err-clause-served : goal.returns-in-Err-clause-served
returns-in-Err-clause-served g c w hosts =
    output_served c.args.host.now c.take_output.new.self w (Refused c.in-Err.refusal) (reply.Refused c.in-Err.refusal) refl c.args.number (c.in-Err.ensures.event w hosts)
