use Rattle.http_front.specs.declared.task.RequestTask.TheVariants as task
use Rattle.http_front.proofs.SliceLaws.{ended_as, ended_opens}
use Rattle.http_front.proofs.slicing.end_call.Goals as goal

pub returns-in-Opens-clause-leads : goal.returns-in-Opens-clause-leads
returns-in-Opens-clause-leads g c =
    ended_opens g.F.Files.device c.args.number c.args.host.now c.open_slice.new.host c.open_slice.result c.args.how c.args.task c.in-Opens.method c.in-Opens.name
    c.as_slice.result.now c.in-Opens.is c.as_slice.ensures.value c.open_slice.ensures.leads

pub returns-in-Brings-clause-leads : goal.returns-in-Brings-clause-leads
returns-in-Brings-clause-leads g c =
    ended_as g.F.Files.device c.args.number c.args.host.now c.carry_on.new.host c.carry_on.result c.args.how c.args.task (task.Brings c.in-Brings.rest) c.in-Brings.is c.carry_on.ensures.leads
