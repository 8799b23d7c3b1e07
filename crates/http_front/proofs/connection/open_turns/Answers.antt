use Rattle.http_front.specs.Apart.{apart_beside, apart_event, own_same}
use Rattle.http_front.proofs.ConnectLaws.{opened_conn}
use Rattle.http_front.proofs.connection.open_turns.Goals as goal

pub returns-in-Ok-clause-ok : goal.returns-in-Ok-clause-ok
returns-in-Ok-clause-ok g c = opened_conn g.F.Files.device c.in-Ok.number c.args.host.now c.run_call.new.host c.open_conn.new.self c.run_call.result c.in-Ok.ensures.event c.run_call.ensures.leads

pub returns-in-Ok-clause-others : goal.returns-in-Ok-clause-others
returns-in-Ok-clause-others g c k some apart from so =
    apart_beside g.F.Files.device c.in-Ok.number k from c.open_conn.new.self c.run_call.new.host apart
    (apart_event g.F.Files.device 0 k from c.args.host.now c.open_conn.new.self some so _ _ c.in-Ok.ensures.event)
    (c.run_call.ensures.beside c.open_conn.new.self (own_same g.F.Files.device c.in-Ok.number c.open_conn.new.self))

pub returns-in-Err-clause-others : goal.returns-in-Err-clause-others
returns-in-Err-clause-others g c k some apart from so = apart_event g.F.Files.device 0 k from c.args.host.now c.open_conn.new.self some so _ _ c.in-Err.ensures.event
