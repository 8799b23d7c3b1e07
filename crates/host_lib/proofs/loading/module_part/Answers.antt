use Rattle.host_lib.proofs.Refused.{module_refused_at, part_not, part_read}
use Rattle.host_lib.proofs.loading.module_part.Goals as goal

pub returns-in-Ok-clause-read : goal.returns-in-Ok-clause-read
returns-in-Ok-clause-read c = part_read c.args.text.now c.args.cert.now c.in-Ok.code c.certified.result c.in-Ok.ensures.read c.certified.ensures.read

pub returns-in-Ok-clause-refused : goal.returns-in-Ok-clause-refused
returns-in-Ok-clause-refused c = part_not c.args.index c.args.text.now c.args.cert.now c.in-Ok.code c.certified.result c.in-Ok.ensures.read c.certified.ensures.refused

pub returns-in-Err-clause-refused : goal.returns-in-Err-clause-refused
returns-in-Err-clause-refused c = module_refused_at c.args.index c.args.text.now c.args.cert.now c.in-Err.refusal c.in-Err.ensures.refused
