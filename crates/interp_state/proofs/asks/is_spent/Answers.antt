-- Names are left up to the last.
use Rattle.std.proofs.Common.{rules}
use Rattle.run_model.specs.Steps.{is_spent}
use Rattle.interp_state.proofs.asks.is_spent.Goals as goal

pub returns : goal.returns
unfolding is_spent
returns c = search rules
