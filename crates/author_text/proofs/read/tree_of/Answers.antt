use Rattle.std.proofs.Common.{◌≡◌, map, ap, ◌∙◌}
use Rattle.author_text.specs.ReadSource.{read_filter}
use Rattle.author_text.specs.Tokens.{token_of}
use Rattle.author_text.specs.UnreadTokens.{tokens_at}
use Rattle.author_text.proofs.AgainLaws.{printed_found, printed_refused}
use Rattle.author_text.proofs.read.tree_of.Goals as goal

pub returns-in-Ok-clause-again : goal.returns-in-Ok-clause-again
returns-in-Ok-clause-again c = λ s w f e n.
    c.tree_of_tokens.ensures.again s
    (ap (λ ts. read_filter (tokens_at (map token_of ts) 0)) c.deref.ensures.value ∙ printed_found c.args.text.now (map token_of c.in-Ok.found.items) s w f e c.in-Ok.ensures)

pub returns-in-Err-clause-again : goal.returns-in-Err-clause-again
returns-in-Err-clause-again c = λ s w f e n. printed_refused c.args.text.now c.in-Err.refusal s w e n c.in-Err.ensures
