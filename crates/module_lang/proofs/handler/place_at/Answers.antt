-- The map finds what the list does.
use Rattle.std.proofs.Common.{◌∙◌}
use Rattle.module_lang.proofs.HandlerLaws.{place_found}
use Rattle.module_lang.proofs.handler.place_at.Goals as goal

pub returns-clause-place : goal.returns-clause-place
returns-clause-place c = λ labels h. c.copied.ensures ∙ c.get.ensures.value ∙ place_found c.args.places.now labels c.args.name h
