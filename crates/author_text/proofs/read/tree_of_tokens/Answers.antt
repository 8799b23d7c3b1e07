use Rattle.std.proofs.Common.{◌≡◌, sym, ap, ◌∙◌}
use Rattle.author_text.specs.ReadSource.{read_filter}
use Rattle.author_text.proofs.AgainLaws.{again_found}
use Rattle.author_text.proofs.read.tree_of_tokens.Goals as goal

pub returns-clause-again : goal.returns-clause-again
returns-clause-again c = λ s is.
    let w = sym c.is_whole.ensures ∙ c.if-not-is_whole.false in
    let read = c.filter-source.ensures.read w in
    let start : read_filter (_) ≡ _ = ap read_filter c.new-parser.ensures.left ∙ is in
    again_found c.filter-source.new.self c.filter-source.result s c.outcome.result w (read.0 ∙ ap (λ x. x.0) start) (read.1 ∙ ap (λ x. x.1) start) c.outcome.ensures
