-- Each part is the request's or the reply's.
use Rattle.std.proofs.Common.{rules}
use Rattle.http_front.proofs.texts.exchange_of.Goals as goal

pub returns : goal.returns
returns c = search rules
