use Rattle.http_front.proofs.RequestLaws.{bare_finished}
use Rattle.http_front.proofs.requests.finish_without_body.Goals as goal

pub returns-clause-leads : goal.returns-clause-leads
returns-clause-leads g c = bare_finished g.F.Files.device c.args.number c.args.host.now c.end_request.new.host c.args.failure c.without_body.result c.without_body.ensures c.in_ok-end_request.ensures.leads
