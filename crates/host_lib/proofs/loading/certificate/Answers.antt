use Rattle.host_lib.proofs.Refused.{cert_fault}
use Rattle.host_lib.proofs.loading.certificate.Goals as goal

pub returns-in-Err-Fault-clause-refused : goal.returns-in-Err-Fault-clause-refused
returns-in-Err-Fault-clause-refused c =
    cert_fault c.args.index c.args.text.now c.is_empty.result _ c.in-Err-Fault.line c.in-Err-Fault.code c.is_empty.ensures c.if-is_empty.false c.in-Err-Fault.field-0-is c.in-Err-Fault.ensures.told
