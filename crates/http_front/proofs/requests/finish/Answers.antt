use Rattle.std.proofs.Common.{Ok, Err, refl}
use Rattle.std.proofs.lemmas.Result.{err_from_is_err_and}
use Rattle.http_front.specs.declared.handler.Slice.TheVariants as slice
use Rattle.http_front.specs.declared.running.CallEnd.TheVariants as ended
use Rattle.http_front.proofs.Beside.{beside_made}
use Rattle.http_front.proofs.RequestLaws.{finished, output_finished, output_lacked}
use Rattle.http_front.proofs.requests.finish.Goals as goal

pub returns-in_err-end_request-in-Succeeded : goal.returns-in_err-end_request-in-Succeeded
returns-in_err-end_request-in-Succeeded g c =
    let p = err_from_is_err_and c.from_residual.result c.from_residual.ensures.1 in
    let o = c.output-outcome.ensures in
    let n = c.in_err-end_request-in-Succeeded.ensures in
    let e = c.in_err-end_request-in-Succeeded.field-0.0 in
    rw (p.1, p.2) (record {
      leads = finished g.F.Files.device c.args.number c.args.host.now c.end_request.new.host (Err e) c.args.how ended.Succeeded c.in-Succeeded.is
          (output_lacked g.F.Files.device c.args.number c.args.host.now c.output-outcome.new.host c.end_request.new.host c.output-outcome.result (Err e) e refl o.leads n.leads);
      err = n.err;
      lacks = λ from so. n.lacks from (beside_made g.F.Files.device c.args.number from c.args.host.now c.output-outcome.new.host so _ o.few);
      few = λ from k so. n.few from k (o.few from k so);
      calls = tt;
    })

pub returns-in_ok-end_request-in-Succeeded-clause-leads : goal.returns-in_ok-end_request-in-Succeeded-clause-leads
returns-in_ok-end_request-in-Succeeded-clause-leads g c =
    finished g.F.Files.device c.args.number c.args.host.now c.end_request.new.host (Ok (slice.Done c.output-outcome.result)) c.args.how ended.Succeeded c.in-Succeeded.is
    (output_finished g.F.Files.device c.args.number c.args.host.now c.output-outcome.new.host c.end_request.new.host c.output-outcome.result
    c.output-outcome.ensures.leads c.in_ok-end_request-in-Succeeded.ensures.leads)

pub returns-in-Failed-clause-leads : goal.returns-in-Failed-clause-leads
returns-in-Failed-clause-leads g c = finished g.F.Files.device c.args.number c.args.host.now c.finish_without_body.new.host c.finish_without_body.result c.args.how _ c.in-Failed.is c.finish_without_body.ensures.leads
