use Rattle.http_front.specs.Apart.{apart_event}
use Rattle.http_front.proofs.CloseLaws.{turns_closed, turns_refused}
use Rattle.http_front.proofs.connection.close_turns.Goals as goal
use Rattle.http_front.proofs.connection.close_turns.Goals.{in-Ok, in-Err}

pub returns-clause-others : goal.returns-clause-others
returns-clause-others g c k apart from so =
    elim c.match-answer.branch [
      | in-Ok v ↦ apart_event g.F.Files.device c.args.number k from c.args.host.now c.close-answer.new.self apart so _ _ v.in-Ok.ensures.event
      | in-Err v ↦ apart_event g.F.Files.device c.args.number k from c.args.host.now c.close-answer.new.self apart so _ _ v.in-Err.ensures.event
    ]

pub returns-clause-closed : goal.returns-clause-closed
returns-clause-closed g c =
    elim c.match-answer.branch [
      | in-Ok v ↦ turns_closed g.F.Files.device c.args.number c.args.host.now c.close-answer.new.self c.match-answer.result _ v.result-is v.in-Ok.ensures.event
      | in-Err v ↦ turns_refused g.F.Files.device c.args.number c.args.host.now c.close-answer.new.self c.match-answer.result v.in-Err.refusal v.lacks_memory.result
          v.result-is v.lacks_memory.ensures v.in-Err.ensures.event
    ]
