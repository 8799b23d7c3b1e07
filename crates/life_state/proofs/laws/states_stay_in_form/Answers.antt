-- By what makes a state.
use Rattle.life_state.proofs.FormRules.{rules_keep_form}
use Rattle.life_state.proofs.FormJoins.{joins_keep_form, joins_absorb}
use Rattle.life_state.proofs.FormEntries.{entries_are_formed}
use Rattle.life_state.proofs.laws.states_stay_in_form.Goals as goal

pub returns-clause-rules : goal.returns-clause-rules
returns-clause-rules c = rules_keep_form

pub returns-clause-joins : goal.returns-clause-joins
returns-clause-joins c = joins_keep_form

pub returns-clause-entries : goal.returns-clause-entries
returns-clause-entries c = entries_are_formed

pub returns-clause-absorb : goal.returns-clause-absorb
returns-clause-absorb c = joins_absorb
