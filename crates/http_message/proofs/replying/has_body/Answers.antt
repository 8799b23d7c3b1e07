-- Only a GET that went well has one.
use Rattle.std.proofs.Common.{rules}
use Rattle.http_message.proofs.replying.has_body.Goals as goal

pub returns-in-Success-Get : goal.returns-in-Success-Get
returns-in-Success-Get c = search rules
