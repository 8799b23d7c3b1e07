use Rattle.script_play.proofs.Served.{file_served}
use Rattle.script_play.proofs.commands.file.Goals as goal

pub returns-in-Ok-clause-served : goal.returns-in-Ok-clause-served
returns-in-Ok-clause-served g c w hosts =
    file_served c.args.host.now c.add_file.new.self w c.args.file.now c.as_slice.result.now c.in_ok-bytes.bytes.items c.as_slice.ensures c.in_ok-bytes.ensures (c.in-Ok.ensures.event w hosts)
