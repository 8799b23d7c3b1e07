use Rattle.std.proofs.Common.{false, codes, sym, ap, ◌∙◌}
use Rattle.life_cert.specs.StateFromText.{live_past, live_read}
use Rattle.life_cert.proofs.StateWords.{took, took_none}
use Rattle.life_cert.proofs.state_text.read_in.Goals as goal

pub returns-then-take-clause-value : goal.returns-then-take-clause-value
returns-then-take-clause-value c =
    let t = c.args.unread.now.bytes.now in
    let e = sym c.take.ensures.found ∙ c.if-take.true in
    rw e (c.read_live.ensures.value ∙ ap (live_read false false) (took (codes " in=") t c.take.new.self.bytes.now e c.take.ensures.rest))

pub returns-then-take-clause-rest : goal.returns-then-take-clause-rest
returns-then-take-clause-rest c =
    let t = c.args.unread.now.bytes.now in
    let e = sym c.take.ensures.found ∙ c.if-take.true in
    rw e (c.read_live.ensures.rest ∙ ap live_past (took (codes " in=") t c.take.new.self.bytes.now e c.take.ensures.rest))

pub returns-else-take-clause-rest : goal.returns-else-take-clause-rest
returns-else-take-clause-rest c =
    let t = c.args.unread.now.bytes.now in
    let e = sym c.take.ensures.found ∙ c.if-take.false in
    rw e (took_none (codes " in=") t c.take.new.self.bytes.now e c.take.ensures.rest)
