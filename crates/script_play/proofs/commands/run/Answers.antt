use Rattle.std.proofs.Common.{◌∙◌, ap}
use Rattle.script_play.specs.Plays.{is_fault}
use Rattle.script_play.proofs.Served.{run_served, step_well}
use Rattle.script_play.proofs.commands.run.Goals as goal

pub returns-clause-served : goal.returns-clause-served
returns-clause-served g c w hosts =
    run_served c.args.host.now c.run.new.self c.args.number c.run.result c.stepped.result w c.stepped.ensures (c.run.ensures.runs w hosts)

pub returns-clause-safe : goal.returns-clause-safe
returns-clause-safe g c safe = ap is_fault c.stepped.ensures ∙ step_well c.run.result (c.run.ensures.safe safe)
