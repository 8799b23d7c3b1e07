use Rattle.std.proofs.Common.{refl}
use Rattle.run_model.specs.Worlds.{Connected, Refused}
use Rattle.script_text.specs.declared.reply.CommandReply.TheVariants as reply
use Rattle.script_play.proofs.Served.{open_served}
use Rattle.script_play.proofs.commands.open.Goals as goal

pub returns-in-Ok-clause-served : goal.returns-in-Ok-clause-served
returns-in-Ok-clause-served g c w hosts =
    open_served c.args.host.now c.open_conn.new.self w (Connected c.in-Ok.number) (reply.Connected c.in-Ok.number) refl (c.in-Ok.ensures.event w hosts)

pub returns-in-Err-clause-served : goal.returns-in-Err-clause-served
returns-in-Err-clause-served g c w hosts =
    open_served c.args.host.now c.open_conn.new.self w (Refused c.in-Err.refusal) (reply.Refused c.in-Err.refusal) refl (c.in-Err.ensures.event w hosts)
