use Rattle.http_front.proofs.Beside.{beside_runs}
use Rattle.http_front.proofs.RequestLaws.{runs_told}
use Rattle.http_front.proofs.running.run_call.Goals as goal

pub returns-clause-leads : goal.returns-clause-leads
returns-clause-leads g c = runs_told g.F.Files.device c.args.number c.args.host.now c.run.new.self c.run.result c.how_ended.result c.how_ended.ensures c.run.ensures.runs

pub returns-clause-beside : goal.returns-clause-beside
returns-clause-beside g c from so = beside_runs g.F.Files.device c.args.number from c.args.host.now c.run.new.self so c.run.result c.run.ensures.runs
