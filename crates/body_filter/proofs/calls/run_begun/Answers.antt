use Rattle.body_filter.proofs.HostLaws.{begun_so, refused_so}
use Rattle.body_filter.proofs.SafeCalls.{begun_well}
use Rattle.body_filter.proofs.calls.run_begun.Goals as goal

pub returns-in-Ok-clause-leads : goal.returns-in-Ok-clause-leads
returns-in-Ok-clause-leads g c = begun_so g.F.Files.device c.args.number c.args.host.now c.run_out.new.host c.args.begun _ c.run_out.result c.in-Ok.is c.run_out.ensures.leads

pub returns-in-Err-clause-leads : goal.returns-in-Err-clause-leads
returns-in-Err-clause-leads g c = refused_so g.F.Files.device c.args.number c.args.host.now c.args.begun c.in-Err.refusal c.in-Err.is

pub returns-in-Err-clause-safe : goal.returns-in-Err-clause-safe
returns-in-Err-clause-safe g c safe well = begun_well c.args.begun c.in-Err.refusal c.in-Err.is well
