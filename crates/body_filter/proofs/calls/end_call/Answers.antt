use Rattle.std.proofs.lemmas.Result.{err_from_is_err_and}
use Rattle.body_filter.proofs.HostLaws.{ended_unwritten, ended_well, runs_alive}
use Rattle.body_filter.proofs.calls.end_call.Goals as goal

pub put_output-requires : goal.put_output-requires
put_output-requires g c = runs_alive g.F.Files.device c.args.number c.args.host.now c.run_begun-how.new.host _ c.run_begun-how.result c.requires c.run_begun-how.ensures.leads

pub returns-in_err-put_output-clause-leads : goal.returns-in_err-put_output-clause-leads
returns-in_err-put_output-clause-leads g c =
    let p = err_from_is_err_and c.from_residual.result c.from_residual.ensures.1 in
    rw (p.1, p.2) (ended_unwritten g.F.Files.device c.args.number c.args.host.now c.run_begun-how.new.host c.put_output.new.host _ _ _ c.run_begun-how.result _ c.run_begun-how.ensures.leads
    c.in_err-put_output.ensures.leads)

pub returns-clause-leads : goal.returns-clause-leads
returns-clause-leads g c =
    ended_well g.F.Files.device c.args.number c.args.host.now c.run_begun-how.new.host c.put_output.new.host _ _ _ c.run_begun-how.result _
    c.run_begun-how.ensures.leads c.in_ok-put_output.ensures.leads
