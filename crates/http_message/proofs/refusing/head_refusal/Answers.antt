use Rattle.std.proofs.Common.{◌∙◌}
use Rattle.http_message.proofs.Asked.{refused_by_fields, refused_by_line}
use Rattle.http_message.proofs.refusing.head_refusal.Goals as goal

pub returns-in-Some : goal.returns-in-Some
returns-in-Some c h at =
    refused_by_fields c.args.buf.now c.args.spans.now c.args.head h c.in-Some.status at c.in-Some.ensures

pub returns-in-None : goal.returns-in-None
returns-in-None c h at =
    c.line_refusal.ensures
    ∙ refused_by_line c.args.buf.now c.args.spans.now c.args.head h _ _ at c.in-None.ensures c.of.ensures c.of-in-None.ensures
