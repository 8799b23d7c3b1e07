use Rattle.std.proofs.Common.{sym}
use Rattle.host_lib.proofs.Steps.{awake_after, unfaulted_after}
use Rattle.host_lib.proofs.session.HostSession.bring.Goals as goal

pub returns-clause-awake : goal.returns-clause-awake
returns-clause-awake c = awake_after c.args.self.now.host c.bring.new.self c.requires _ _ _ c.bring.ensures.event

pub returns-clause-event : goal.returns-clause-event
returns-clause-event c w stands = rw (sym c.take-pieces.ensures.value) (c.bring.ensures.event w stands)

pub returns-clause-unfaulted : goal.returns-clause-unfaulted
returns-clause-unfaulted c = unfaulted_after c.args.self.now.host c.bring.new.self c.requires _ _ _ c.bring.ensures.event
