use Rattle.std.proofs.Common.{Some}
use Rattle.http_front.proofs.Beside.{beside_made}
use Rattle.http_front.proofs.SliceLaws.{alive_stepped, call_on, ends_then}
use Rattle.http_front.proofs.slicing.go_on_request.Goals as goal

pub returns-in-None-clause-leads : goal.returns-in-None-clause-leads
returns-in-None-clause-leads g c = call_on g.F.Files.device c.args.number c.args.host.now c.step_slice.new.host c.args.task c.in-None.ensures.leads

pub returns-in-Some-clause-leads : goal.returns-in-Some-clause-leads
returns-in-Some-clause-leads g c =
    ends_then g.F.Files.device c.args.number c.args.host.now c.step_slice.new.host c.end_call.new.host c.end_call.result c.args.task c.in-Some.how c.in-Some.ensures.leads c.end_call.ensures.leads

pub end_call-requires : goal.end_call-requires
end_call-requires g c = alive_stepped g.F.Files.device c.args.number c.args.host.now c.step_slice.new.host (Some c.in-Some.how) c.requires c.in-Some.ensures.leads

pub returns-in-Some-clause-lacks : goal.returns-in-Some-clause-lacks
returns-in-Some-clause-lacks g c from so =
    c.end_call.ensures.lacks from (beside_made g.F.Files.device c.args.number from c.args.host.now c.step_slice.new.host so _ c.step_slice.ensures.few)
