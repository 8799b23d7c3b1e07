-- As the refusal says.
use Rattle.std.proofs.Common.{rules}
use Rattle.module_commands.proofs.certifying.certification.Goals as goal

pub returns-in-Err-At : goal.returns-in-Err-At
returns-in-Err-At c = search rules
