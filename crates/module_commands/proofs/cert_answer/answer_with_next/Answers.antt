use Rattle.module_commands.specs.TextAnswers.{IsAnswerWith}
use Rattle.module_commands.proofs.AnswerLaws.{of_all}
use Rattle.module_commands.proofs.cert_answer.answer_with_next.Goals as goal

pub returns-clause-ok : goal.returns-clause-ok
returns-clause-ok g c =
    let answer = c.in_ok-answer_with.field-0 in
    of_all (λ t. IsAnswerWith c.args.task t c.args.code.now answer.text.items answer.ended) _ _ _ _ c.in_ok-text.ensures.taken c.in_ok-text.ensures.end c.as_slice.ensures.value c.in_ok-answer_with.ensures
