-- As the refusal says.
use Rattle.std.proofs.Common.{rules}
use Rattle.module_commands.proofs.cert_answer.verdict.Goals as goal

pub returns-in-Err : goal.returns-in-Err
returns-in-Err c = search rules
