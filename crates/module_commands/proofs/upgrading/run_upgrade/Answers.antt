use Rattle.module_commands.specs.TextAnswers.{IsUpgradeOutput}
use Rattle.module_commands.proofs.AnswerLaws.{writes_second, writes_second_front}
use Rattle.module_commands.proofs.upgrading.run_upgrade.Goals as goal

pub returns-clause-ok : goal.returns-clause-ok
returns-clause-ok g c =
    writes_second IsUpgradeOutput _ _ _ _ _ _ _ _ _ _ c.in_ok-text.ensures.taken c.in_ok-text.ensures.end c.as_slice.ensures.value c.in_ok-answer.ensures.ok c.write_answer.ensures.ended
    c.write_answer.ensures.text

pub returns-clause-write : goal.returns-clause-write
returns-clause-write g c = λ h.
    writes_second_front IsUpgradeOutput _ _ _ _ _ _ _ _ _ _ c.in_ok-text.ensures.taken c.in_ok-text.ensures.end c.as_slice.ensures.value c.in_ok-answer.ensures.ok c.write_answer.ensures.text h
