use Rattle.std.proofs.Common.{Bool, false, true, refl, arith}
use Rattle.life_state.proofs.Arrays.{read_set_at}
use Rattle.life_check.proofs.slim.mark.Goals as goal

pub returns : goal.returns
returns c = read_set_at (λ (b : Bool). b) false c.args.leaders.now c.args.pc c.args.pc true refl (omega arith)
