use Rattle.filter_files.specs.FilterReads.{IsFilterRead}
use Rattle.module_commands.proofs.AnswerLaws.{of_all}
use Rattle.filter_files.proofs.compiling.read_filter.Goals as goal

pub returns-clause-ok : goal.returns-clause-ok
returns-clause-ok g c =
    of_all (λ t. IsFilterRead t c.in_ok-compile_text.field-0) _ _ _ _ c.in_ok-text.ensures.taken c.in_ok-text.ensures.end c.as_slice.ensures.value c.in_ok-compile_text.ensures.ok
