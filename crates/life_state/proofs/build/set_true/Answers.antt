use Rattle.std.proofs.Common.{Bool, false, true, arith}
use Rattle.life_state.proofs.Arrays.{read_set_at}
use Rattle.life_state.proofs.build.set_true.Goals as goal

pub returns : goal.returns
returns c = read_set_at (λ (b : Bool). b) false c.args.row.now c.args.d c.from.result true c.from.ensures (omega arith)
