use Rattle.filter_files.specs.FilterAnswers.{IsCompileOutput}
use Rattle.module_commands.proofs.AnswerLaws.{writes_front}
use Rattle.filter_files.proofs.compile_command.run_compile.Goals as goal

pub returns-clause-write : goal.returns-clause-write
returns-clause-write g c = λ h.
    writes_front IsCompileOutput _ _ _ _ _ _ _ _ _ c.in_ok-text.ensures.taken c.in_ok-text.ensures.end c.as_slice.ensures.value c.in_ok-answer.ensures.ok c.write_answer.ensures.text h
