use Rattle.http_message.proofs.Headless.{headless_full, partial_says}
use Rattle.http_message.proofs.looking.look_at.Goals as goal

pub returns-in-Ok-Partial-2-clause-looks : goal.returns-in-Ok-Partial-2-clause-looks
returns-in-Ok-Partial-2-clause-looks c =
    let none = partial_says _ c.args.seen.now c.in-Ok-Partial.field-0-is c.in-Ok-Partial.ensures.partial in
    headless_full c.args.limit _ c.args.seen.now c.args.eof c.if-seen-limit.true none
