-- By the budget, which no more steps than it go on.
use Rattle.filter_chain.proofs.Going.{runs_whole}
use Rattle.filter_chain.proofs.host.Host.run.Goals as goal

pub returns-clause-runs : goal.returns-clause-runs
returns-clause-runs g c = runs_whole g.F.Files.device c.args.number c.args.self.now c.step_on.new.self c.step_on.result c.budget-budget.result c.budget-budget.ensures c.step_on.ensures.steps
