-- As the rule.
use Rattle.std.proofs.Common.{rules}
use Rattle.life_state.proofs.state.State.is_formed_fact.Goals as goal

pub returns-clause-value : goal.returns-clause-value
returns-clause-value c = search rules
