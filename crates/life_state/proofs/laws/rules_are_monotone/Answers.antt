-- By what makes a state.
use Rattle.life_state.proofs.WithinRules.{rules_are_monotone, entries_are_monotone}
use Rattle.life_state.proofs.laws.rules_are_monotone.Goals as goal

pub returns-clause-rules : goal.returns-clause-rules
returns-clause-rules c = rules_are_monotone

pub returns-clause-entries : goal.returns-clause-entries
returns-clause-entries c = entries_are_monotone
