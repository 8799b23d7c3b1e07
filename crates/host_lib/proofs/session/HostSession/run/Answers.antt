use Rattle.host_lib.proofs.Steps.{awake_by, unfaulted_steps}
use Rattle.host_lib.proofs.session.HostSession.run.Goals as goal

pub returns-clause-awake : goal.returns-clause-awake
returns-clause-awake c = awake_by c.args.self.now.host c.step_up_to.new.self c.requires _ c.step_up_to.ensures.steps

pub returns-clause-unfaulted : goal.returns-clause-unfaulted
returns-clause-unfaulted c = unfaulted_steps c.args.self.now.host c.step_up_to.new.self c.requires _ _ _ c.step_up_to.ensures.steps
