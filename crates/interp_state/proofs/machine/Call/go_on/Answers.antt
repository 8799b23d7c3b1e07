-- Behind the pass, or at its target.
use Rattle.std.proofs.Common.{rules}
use Rattle.interp_state.proofs.machine.Call.go_on.Goals as goal

pub returns : goal.returns
returns c = search rules
