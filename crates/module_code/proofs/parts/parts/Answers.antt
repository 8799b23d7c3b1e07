use Rattle.module_code.proofs.PartsLaws.{split_again}
use Rattle.module_code.proofs.parts.parts.Goals as goal

pub returns-clause-split : goal.returns-clause-split
returns-clause-split c = rw c.split.ensures (split_again c.args.instr)
