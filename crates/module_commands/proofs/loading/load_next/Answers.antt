use Rattle.module_commands.specs.Loading.{IsLoadedWith}
use Rattle.module_commands.proofs.AnswerLaws.{of_all}
use Rattle.module_commands.proofs.loading.load_next.Goals as goal

pub returns-clause-ok : goal.returns-clause-ok
returns-clause-ok g c =
    of_all (λ t. IsLoadedWith t c.args.code c.in_ok-with_cert.field-0) _ _ _ _ c.in_ok-text.ensures.taken c.in_ok-text.ensures.end c.as_slice.ensures.value c.in_ok-with_cert.ensures
