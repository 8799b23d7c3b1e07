-- By the number of the further steps.
use Rattle.filter_chain.proofs.Going.{steps_alike}
use Rattle.filter_chain.proofs.host.Host.step_up_to.Goals as goal

pub returns-clause-steps : goal.returns-clause-steps
returns-clause-steps g c =
    steps_alike g.F.Files.device c.args.number c.args.self.now c.step_on.new.self c.step_on.result c.saturating_sub.result _ c.saturating_sub.ensures c.step_on.ensures.steps
