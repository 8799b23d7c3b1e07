use Rattle.std.proofs.Common.{◌+◌, arith}
use Rattle.std.proofs.lemmas.Result.{err_from_is_err_and}
use Rattle.http_front.specs.Nearing.{slice_steps}
use Rattle.http_front.proofs.FewLaws.{few_more}
use Rattle.http_front.proofs.Beside.{beside_made}
use Rattle.http_front.specs.Among.{ComesIn}
use Rattle.http_front.specs.declared.handler.Slice.TheVariants as slice
use Rattle.http_front.proofs.SliceLaws.{alive_after, goes_on, part_lacked, slice_is}
use Rattle.http_front.proofs.slicing.begin_request.Goals as goal

pub returns-in-Works-clause-leads : goal.returns-in-Works-clause-leads
returns-in-Works-clause-leads g c =
    goes_on g.F.Files.device c.args.number c.args.host.now c.begin_init.new.host c.go_on_request.new.host c.go_on_request.result c.in_ok-slice.slice c.in-Works.task
    (λ way b h. ComesIn way b h c.args.number c.args.method c.args.name.now) c.in-Works.is c.in_ok-slice.ensures.leads c.go_on_request.ensures.leads

pub returns-in-Done-clause-few : goal.returns-in-Done-clause-few
returns-in-Done-clause-few g c from n so =
    few_more g.F.Files.device c.args.number from c.begin_init.new.host (n + slice_steps) (c.begin_init.ensures.few from n so) (n + slice_steps + slice_steps) (omega arith)

pub returns-in_err-slice-clause-few : goal.returns-in_err-slice-clause-few
returns-in_err-slice-clause-few g c from n so =
    few_more g.F.Files.device c.args.number from c.begin_init.new.host (n + slice_steps) (c.begin_init.ensures.few from n so) (n + slice_steps + slice_steps) (omega arith)

pub returns-in_err-slice-clause-leads : goal.returns-in_err-slice-clause-leads
returns-in_err-slice-clause-leads g c =
    let p = err_from_is_err_and c.from_residual.result c.from_residual.ensures.1 in
    part_lacked g.F.Files.device c.args.number c.args.host.now c.begin_init.new.host (λ way b h. ComesIn way b h c.args.number c.args.method c.args.name.now)
    (λ way b h. ComesIn way b h c.args.number c.args.method c.args.name.now) c.begin_init.result c.from_residual.result p.0 p.1 c.begin_init.ensures.leads

pub returns-in-Done-clause-leads : goal.returns-in-Done-clause-leads
returns-in-Done-clause-leads g c =
    slice_is g.F.Files.device c.args.number c.args.host.now c.begin_init.new.host (λ way b h. ComesIn way b h c.args.number c.args.method c.args.name.now)
    c.in_ok-slice.slice (slice.Done c.in-Done.outcome) c.in-Done.is c.in_ok-slice.ensures.leads

pub go_on_request-requires : goal.go_on_request-requires
go_on_request-requires g c =
    alive_after g.F.Files.device c.args.number c.args.host.now c.begin_init.new.host (λ way b h. ComesIn way b h c.args.number c.args.method c.args.name.now)
    c.begin_init.result c.requires c.begin_init.ensures.leads

pub returns-in-Works-clause-lacks : goal.returns-in-Works-clause-lacks
returns-in-Works-clause-lacks g c from so =
    c.go_on_request.ensures.lacks from (beside_made g.F.Files.device c.args.number from c.args.host.now c.begin_init.new.host so _ c.begin_init.ensures.few)
