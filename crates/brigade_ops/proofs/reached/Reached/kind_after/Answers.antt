-- Other kinds stay.
use Rattle.std.proofs.Common.{rules}
use Rattle.brigade_ops.proofs.reached.Reached.kind_after.Goals as goal

pub returns-in_default : goal.returns-in_default
returns-in_default c = search rules
