-- The item comes last.
use Rattle.std.proofs.Common.{rules}
use Rattle.module_code.proofs.seq.Seq.push.Goals as goal

pub returns-clause-ok : goal.returns-clause-ok
returns-clause-ok g c = search rules
