use Rattle.std.proofs.Common.{refl}
use Rattle.http_front.proofs.FewLaws.{few_event}
use Rattle.http_front.proofs.RequestLaws.{output_taken, output_refused}
use Rattle.http_front.proofs.requests.output.Goals as goal

pub returns-in-Ok-clause-leads : goal.returns-in-Ok-clause-leads
returns-in-Ok-clause-leads g c = output_taken g.F.Files.device c.args.number c.args.host.now c.take_output.new.self _ c.in-Ok.body refl refl refl c.in-Ok.ensures.event

pub returns-in-Err-clause-leads : goal.returns-in-Err-clause-leads
returns-in-Err-clause-leads g c = output_refused g.F.Files.device c.args.number c.args.host.now c.take_output.new.self c.without_body.result c.in-Err.refusal c.without_body.ensures c.in-Err.ensures.event

pub returns-in-Ok-clause-few : goal.returns-in-Ok-clause-few
returns-in-Ok-clause-few g c from n so = few_event g.F.Files.device c.args.number from c.args.host.now n so c.take_output.new.self _ _ tt refl c.in-Ok.ensures.event

pub returns-in-Err-clause-few : goal.returns-in-Err-clause-few
returns-in-Err-clause-few g c from n so = few_event g.F.Files.device c.args.number from c.args.host.now n so c.take_output.new.self _ _ tt refl c.in-Err.ensures.event
