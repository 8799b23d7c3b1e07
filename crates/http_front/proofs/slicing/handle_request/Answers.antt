use Rattle.std.proofs.Common.{◌≡◌, Ok, ap, arith}
use Rattle.std.proofs.lemmas.Result.{err_from_is_err_and}
use Rattle.http_front.specs.Among.{ComesIn, calls_after, calls_left}
use Rattle.http_front.specs.Requests.{RunsCall}
use Rattle.filter_chain.proofs.Driving.{alive_then}
use Rattle.http_front.proofs.Beside.{beside_made, err_by}
use Rattle.http_front.proofs.SliceLaws.{alive_after, goes_on, handled, not_handled, runs_on}
use Rattle.http_front.proofs.slicing.handle_request.Goals as goal

pub loop-slice-init : goal.loop-slice-init
loop-slice-init g c = record {
  alive =
      alive_after g.F.Files.device c.args.number c.args.host.now c.begin_init.new.host (λ way b h. ComesIn way b h c.args.number c.args.method c.args.name.now)
      c.begin_init.result c.requires c.begin_init.ensures.leads;
  made = c.in_ok-slice.ensures.leads;
  beside = λ from so. beside_made g.F.Files.device c.args.number from c.args.host.now c.begin_init.new.host so _ c.begin_init.ensures.few;
}

pub loop-slice-preserved : goal.loop-slice-preserved
loop-slice-preserved g c =
    let inv = c.loop-slice.invariant in
    let went = runs_on g.F.Files.device c.args.number c.loop-slice.host c.run_call-how.new.host c.end_call.new.host
    (Ok c.in_ok-slice-in-Works.slice) c.in-Works.task c.run_call-how.result c.run_call-how.ensures.leads c.in_ok-slice-in-Works.ensures.leads in
    let made = goes_on g.F.Files.device c.args.number c.args.host.now c.loop-slice.host c.end_call.new.host (Ok c.in_ok-slice-in-Works.slice) c.loop-slice.slice c.in-Works.task
    (λ way b h. ComesIn way b h c.args.number c.args.method c.args.name.now) c.in-Works.is inv.made went in
    record {
      alive =
          alive_after g.F.Files.device c.args.number c.args.host.now c.end_call.new.host (λ way b h. ComesIn way b h c.args.number c.args.method c.args.name.now)
          (Ok c.in_ok-slice-in-Works.slice) c.requires made;
      made = made;
      beside = λ from so.
          beside_made g.F.Files.device c.args.number from c.run_call-how.new.host c.end_call.new.host (c.run_call-how.ensures.beside from (inv.beside from so)) _ c.end_call.ensures.few;
    }

pub loop-slice-smaller : goal.loop-slice-smaller
loop-slice-smaller g c =
    let here : calls_after c.loop-slice.slice ≡ calls_left c.in-Works.task = ap calls_after c.in-Works.is in
    omega (arith, here, c.in_ok-slice-in-Works.ensures.calls)

pub returns-in-Done-clause-leads : goal.returns-in-Done-clause-leads
returns-in-Done-clause-leads g c =
    handled g.F.Files.device c.args.number c.args.host.now c.loop-slice.host c.args.method c.args.name.now c.loop-slice.slice c.in-Done.outcome c.in-Done.is c.loop-slice.invariant.made

pub returns-in_err-slice-clause-leads : goal.returns-in_err-slice-clause-leads
returns-in_err-slice-clause-leads g c =
    let p = err_from_is_err_and c.from_residual.result c.from_residual.ensures.1 in
    not_handled g.F.Files.device c.args.number c.args.host.now c.begin_init.new.host c.args.method c.args.name.now c.begin_init.result c.from_residual.result p.0 p.1 c.begin_init.ensures.leads

pub returns-in_err-slice-in-Works-clause-leads : goal.returns-in_err-slice-in-Works-clause-leads
returns-in_err-slice-in-Works-clause-leads g c =
    let p = err_from_is_err_and c.from_residual-in_err-slice-in-Works.result c.from_residual-in_err-slice-in-Works.ensures.1 in
    let went = runs_on g.F.Files.device c.args.number c.loop-slice.host c.run_call-how.new.host c.end_call.new.host c.end_call.result c.in-Works.task c.run_call-how.result c.run_call-how.ensures.leads
    c.end_call.ensures.leads in
    not_handled g.F.Files.device c.args.number c.args.host.now c.end_call.new.host c.args.method c.args.name.now c.end_call.result c.from_residual-in_err-slice-in-Works.result p.0 p.1
    (goes_on g.F.Files.device c.args.number c.args.host.now c.loop-slice.host c.end_call.new.host c.end_call.result c.loop-slice.slice c.in-Works.task
    (λ way b h. ComesIn way b h c.args.number c.args.method c.args.name.now) c.in-Works.is c.loop-slice.invariant.made went)

pub returns-in_err-slice-in-Works-clause-beside : goal.returns-in_err-slice-in-Works-clause-beside
returns-in_err-slice-in-Works-clause-beside g c from so =
    beside_made g.F.Files.device c.args.number from c.run_call-how.new.host c.end_call.new.host (c.run_call-how.ensures.beside from (c.loop-slice.invariant.beside from so)) _
    c.end_call.ensures.few

pub returns-in_err-slice-in-Works-clause-lacks : goal.returns-in_err-slice-in-Works-clause-lacks
returns-in_err-slice-in-Works-clause-lacks g c from so =
    let p = err_from_is_err_and c.from_residual-in_err-slice-in-Works.result c.from_residual-in_err-slice-in-Works.ensures.1 in
    err_by _ c.from_residual-in_err-slice-in-Works.result p.0 c.in_err-slice-in-Works.field-0.0 p.1 p.2
    (c.in_err-slice-in-Works.ensures.lacks from (c.run_call-how.ensures.beside from (c.loop-slice.invariant.beside from so)))

pub end_call-requires : goal.end_call-requires
end_call-requires g c =
    alive_then g.F.Files.device c.loop-slice.host c.run_call-how.new.host (λ b h s t. RunsCall b h c.args.number s c.run_call-how.result t) c.loop-slice.invariant.alive c.run_call-how.ensures.leads

pub returns-in_err-slice-clause-beside : goal.returns-in_err-slice-clause-beside
returns-in_err-slice-clause-beside g c from so = beside_made g.F.Files.device c.args.number from c.args.host.now c.begin_init.new.host so _ c.begin_init.ensures.few
