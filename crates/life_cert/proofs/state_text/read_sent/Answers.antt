use Rattle.std.proofs.Common.{codes, sym, ap, ◌∙◌}
use Rattle.life_cert.specs.StateFromText.{behind}
use Rattle.life_cert.proofs.StateWords.{took, took_none}
use Rattle.life_cert.proofs.state_text.read_sent.Goals as goal

pub returns-then-not-sent-clause-rest : goal.returns-then-not-sent-clause-rest
returns-then-not-sent-clause-rest c =
    let t = c.args.unread.now.bytes.now in
    let e = sym c.take-sent.ensures.found ∙ c.if-not-sent.true in
    rw e (c.skip.ensures ∙ ap (behind (codes "sent=no")) (took_none (codes "sent=maybe") t c.take-sent.new.self.bytes.now e c.take-sent.ensures.rest))

pub returns-else-not-sent-clause-rest : goal.returns-else-not-sent-clause-rest
returns-else-not-sent-clause-rest c =
    let t = c.args.unread.now.bytes.now in
    let e = sym c.take-sent.ensures.found ∙ c.if-not-sent.false in
    rw e (took (codes "sent=maybe") t c.take-sent.new.self.bytes.now e c.take-sent.ensures.rest)
