use Rattle.module_commands.specs.TextAnswers.{IsAssembled}
use Rattle.module_commands.proofs.AnswerLaws.{writes_front}
use Rattle.module_commands.proofs.assembling.run_assemble.Goals as goal

pub returns-clause-write : goal.returns-clause-write
returns-clause-write g c = λ h.
    writes_front IsAssembled _ _ _ _ _ _ _ _ _ c.in_ok-text.ensures.taken c.in_ok-text.ensures.end c.as_slice.ensures.value c.in_ok-answer.ensures c.write_answer.ensures.text h
