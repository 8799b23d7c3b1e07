use Rattle.std.proofs.lemmas.Result.{err_from_is_err_and}
use Rattle.body_filter.proofs.HostLaws.{put_tried, untried}
use Rattle.body_filter.proofs.SafeCalls.{event_unfaulted, safe_event}
use Rattle.body_filter.proofs.feeding.bring.Goals as goal

pub returns-in_err-pieces-clause-leads : goal.returns-in_err-pieces-clause-leads
returns-in_err-pieces-clause-leads g c =
    let p = err_from_is_err_and c.from_residual.result c.from_residual.ensures.1 in
    rw (p.1, p.2) (untried g.F.Files.device c.args.number c.args.host.now _ _)

pub returns-clause-leads : goal.returns-clause-leads
returns-clause-leads g c =
    put_tried g.F.Files.device c.args.number c.args.host.now c.bring-begun.new.self c.end_call.new.host _ _ c.args.piece c.in_ok-pieces.pieces _ c.end_call.result c.in_ok-pieces.ensures
    c.bring-begun.ensures.event c.end_call.ensures.leads

pub returns-clause-safe : goal.returns-clause-safe
returns-clause-safe g c safe =
    c.end_call.ensures.safe (safe_event g.F.Files.device c.args.host.now c.bring-begun.new.self _ _ _ c.requires c.bring-begun.ensures.event safe)
    (event_unfaulted g.F.Files.device c.args.host.now c.bring-begun.new.self _ _ _ c.requires safe c.bring-begun.ensures.event)
