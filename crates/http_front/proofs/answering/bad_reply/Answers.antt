-- Each part of the reply is as written.
use Rattle.std.proofs.Common.{rules}
use Rattle.http_front.proofs.answering.bad_reply.Goals as goal

pub returns : goal.returns
returns c = search rules
