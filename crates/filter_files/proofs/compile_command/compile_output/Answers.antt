use Rattle.filter_files.specs.FilterAnswers.{IsCompileOutput}
use Rattle.module_commands.proofs.AnswerLaws.{of_all}
use Rattle.filter_files.proofs.compile_command.compile_output.Goals as goal

pub returns-clause-ok : goal.returns-clause-ok
returns-clause-ok g c =
    let answer = c.in_ok-answer_of.field-0 in
    of_all (λ t. IsCompileOutput t answer.text.items answer.ended) _ _ _ _ c.in_ok-text.ensures.taken c.in_ok-text.ensures.end c.as_slice.ensures.value c.in_ok-answer_of.ensures.ok
