-- Part by part.
use Rattle.life_state.proofs.JoinAbove.{join_above}
use Rattle.life_state.proofs.JoinLeast.{join_least}
use Rattle.life_state.proofs.laws.joins_are_least.Goals as goal

pub returns-clause-above : goal.returns-clause-above
returns-clause-above c = join_above

pub returns-clause-least : goal.returns-clause-least
returns-clause-least c = join_least
