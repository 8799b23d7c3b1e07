-- The laws of instructions, needs, greater states and the end of a request.
use Rattle.life_check.specs.Meaning.{Covers}
use Rattle.life_check.specs.Soundness.{LivesByTest}
use Rattle.life_check.proofs.Cleared.{request_end_lands}
use Rattle.life_check.proofs.Instructions.{step_lands}
use Rattle.life_check.proofs.Orders.{greater_fits}
use Rattle.life_check.proofs.Wants.{met_is_faultless}
use Rattle.life_check.proofs.laws.rules_are_sound.Goals as goal

pub returns-clause-steps : goal.returns-clause-steps
returns-clause-steps c = λ lives. step_lands (LivesByTest lives)

pub returns-clause-needs : goal.returns-clause-needs
returns-clause-needs c = λ lives p v. met_is_faultless (Covers p v (LivesByTest lives))

pub returns-clause-greater : goal.returns-clause-greater
returns-clause-greater c = λ lives. greater_fits {lives = LivesByTest lives}

pub returns-clause-ends : goal.returns-clause-ends
returns-clause-ends c = request_end_lands
