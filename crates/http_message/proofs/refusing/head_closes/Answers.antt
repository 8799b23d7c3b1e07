use Rattle.std.proofs.Common.{◌∙◌}
use Rattle.http_message.proofs.Asked.{closes_of}
use Rattle.http_message.proofs.refusing.head_closes.Goals as goal

pub returns : goal.returns
returns c h at = c.closes.ensures ∙ closes_of c.args.buf.now c.args.spans.now c.args.head h at
