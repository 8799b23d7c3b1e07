use Rattle.host_lib.proofs.Steps.{awake_after, unfaulted_after}
use Rattle.host_lib.proofs.session.HostSession.begin.Goals as goal

pub returns-clause-awake : goal.returns-clause-awake
returns-clause-awake c = awake_after c.args.self.now.host c.begin.new.self c.requires _ _ _ c.begin.ensures.event

pub returns-clause-unfaulted : goal.returns-clause-unfaulted
returns-clause-unfaulted c = unfaulted_after c.args.self.now.host c.begin.new.self c.requires _ _ _ c.begin.ensures.event
