use Rattle.std.proofs.lemmas.Result.{err_from_is_err_and}
use Rattle.body_filter.proofs.HostLaws.{untried}
use Rattle.body_filter.proofs.feeding.bring_bytes.Goals as goal

pub returns-in_err-piece-clause-leads : goal.returns-in_err-piece-clause-leads
returns-in_err-piece-clause-leads g c =
    let p = err_from_is_err_and c.from_residual.result c.from_residual.ensures.1 in
    rw (p.1, p.2) (untried g.F.Files.device c.args.number c.args.host.now _ _)

pub returns-clause-leads : goal.returns-clause-leads
returns-clause-leads g c = rw c.in_ok-piece.ensures at c.bring.ensures.leads
