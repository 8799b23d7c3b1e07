-- What follows a place of the text is what follows it of the three parts.
use Rattle.std.proofs.Common.{rules}
use Rattle.http_front.proofs.response.ResponseText.rest.Goals as goal

pub returns : goal.returns
returns c = search rules
