use Rattle.std.proofs.Common.{rules, ℕ, List}
use Rattle.module_commands.specs.TextAnswers.{IsTaskOutput}
use Rattle.module_commands.proofs.AnswerLaws.{of_any}
use Rattle.module_commands.proofs.cert_answer.answer_to.Goals as goal

pub returns-in_ok-asm_fault-in-Err-clause-ok : goal.returns-in_ok-asm_fault-in-Err-clause-ok
returns-in_ok-asm_fault-in-Err-clause-ok g c =
    let answer = c.in_ok-asm_fault-in-Err.field-0 in
    let told : (t : List ℕ) → IsTaskOutput c.args.task t c.args.text.now answer.text.items answer.ended = λ t. search rules in
    of_any _ _ told
