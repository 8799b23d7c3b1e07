use Rattle.host_lib.proofs.Refused.{module_fault}
use Rattle.host_lib.proofs.loading.module.Goals as goal

pub returns-in-Err-Fault-clause-refused : goal.returns-in-Err-Fault-clause-refused
returns-in-Err-Fault-clause-refused c = module_fault c.args.index c.args.text.now _ c.in-Err-Fault.line c.in-Err-Fault.code c.in-Err-Fault.field-0-is c.in-Err-Fault.ensures.reads
