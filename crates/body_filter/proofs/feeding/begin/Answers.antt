use Rattle.body_filter.proofs.HostLaws.{event_put}
use Rattle.body_filter.proofs.SafeCalls.{event_unfaulted, safe_event}
use Rattle.body_filter.proofs.feeding.begin.Goals as goal

pub returns-clause-leads : goal.returns-clause-leads
returns-clause-leads g c =
    event_put g.F.Files.device c.args.number c.args.host.now c.begin-begun.new.self c.end_call.new.host _ _ _ _ c.end_call.result c.begin-begun.ensures.event c.end_call.ensures.leads

pub returns-clause-safe : goal.returns-clause-safe
returns-clause-safe g c safe =
    c.end_call.ensures.safe (safe_event g.F.Files.device c.args.host.now c.begin-begun.new.self _ _ _ c.requires c.begin-begun.ensures.event safe)
    (event_unfaulted g.F.Files.device c.args.host.now c.begin-begun.new.self _ _ _ c.requires safe c.begin-begun.ensures.event)
