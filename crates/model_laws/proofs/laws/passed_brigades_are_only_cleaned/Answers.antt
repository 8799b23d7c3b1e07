use Rattle.model_laws.proofs.Marks.{use_after_pass, cleaned_is_usable}
use Rattle.model_laws.proofs.Passed.{passes_mark, passed_is_not_used, step_keeps_passed, return_ends_in}
use Rattle.model_laws.proofs.chains.Passed.{event_keeps_passed}
use Rattle.model_laws.proofs.laws.passed_brigades_are_only_cleaned.Goals as goal

pub returns-clause-marked : goal.returns-clause-marked
returns-clause-marked c = passes_mark

pub returns-clause-passed : goal.returns-clause-passed
returns-clause-passed c = passed_is_not_used

pub returns-clause-after : goal.returns-clause-after
returns-clause-after c = use_after_pass

pub returns-clause-step : goal.returns-clause-step
returns-clause-step c = step_keeps_passed

pub returns-clause-ended : goal.returns-clause-ended
returns-clause-ended c = return_ends_in

pub returns-clause-event : goal.returns-clause-event
returns-clause-event c = event_keeps_passed

pub returns-clause-cleaned : goal.returns-clause-cleaned
returns-clause-cleaned c = cleaned_is_usable
