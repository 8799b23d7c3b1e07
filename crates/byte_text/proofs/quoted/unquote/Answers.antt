-- What is read is what the grammar spells, both ways.
use Rattle.byte_text.proofs.QuoteFound.{only_spelled, spelled_found}
use Rattle.byte_text.proofs.quoted.unquote.Goals as goal

pub returns-clause-only : goal.returns-clause-only
returns-clause-only c = λ s text rest h e. only_spelled c.args.bytes.now s text rest c.read_quoted.result c.read_quoted.ensures h e

pub returns-clause-found : goal.returns-clause-found
returns-clause-found c = spelled_found c.args.bytes.now c.read_quoted.result c.read_quoted.ensures
