use Rattle.filter_chain.proofs.Driving.{leads_as}
use Rattle.filter_chain.specs.Running.{StepsToEnd}
use Rattle.body_filter.specs.BodyCalls.{RunsOut}
use Rattle.body_filter.proofs.SafeCalls.{run_unfaulted}
use Rattle.body_filter.proofs.calls.run_out.Goals as goal

pub returns-clause-leads : goal.returns-clause-leads
returns-clause-leads g c =
    leads_as g.F.Files.device c.args.host.now c.run.new.self (λ b k s t. StepsToEnd b k c.args.number s c.run.result t) (λ b k s t. RunsOut b k c.args.number s c.failure_of.result t)
    (λ b k s t x. record { answer = c.run.result; runs = x; told = c.failure_of.ensures }) c.run.ensures.runs

pub returns-clause-safe : goal.returns-clause-safe
returns-clause-safe g c safe =
    run_unfaulted g.F.Files.device c.args.host.now c.run.new.self c.args.number c.run.result c.failure_of.result c.failure_of.ensures c.requires safe
    (c.run.ensures.safe safe) c.run.ensures.runs
