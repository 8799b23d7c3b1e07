use Rattle.std.proofs.Common.{sym, ◌∙◌}
use Rattle.life_cert.proofs.StateWords.{at_loose, in_brigade}
use Rattle.life_cert.proofs.state_text.read_place.Goals as goal

pub returns-then-take-clause-value : goal.returns-then-take-clause-value
returns-then-take-clause-value c =
    c.read_loose.ensures.value ∙ (at_loose c.args.unread.now.bytes.now c.take.new.self.bytes.now (sym c.take.ensures.found ∙ c.if-take.true) c.take.ensures.rest).0

pub returns-then-take-clause-rest : goal.returns-then-take-clause-rest
returns-then-take-clause-rest c =
    c.read_loose.ensures.rest ∙ (at_loose c.args.unread.now.bytes.now c.take.new.self.bytes.now (sym c.take.ensures.found ∙ c.if-take.true) c.take.ensures.rest).1

pub returns-clause-value : goal.returns-clause-value
returns-clause-value c =
    c.read_place_in.ensures.value ∙ (in_brigade c.args.unread.now.bytes.now c.take.new.self.bytes.now c.read_number-brigade.new.unread.bytes.now c.read_number-brigade.result
    (sym c.take.ensures.found ∙ c.if-take.false) c.take.ensures.rest c.read_number-brigade.ensures.value c.read_number-brigade.ensures.rest).0

pub returns-clause-rest : goal.returns-clause-rest
returns-clause-rest c =
    c.read_place_in.ensures.rest ∙ (in_brigade c.args.unread.now.bytes.now c.take.new.self.bytes.now c.read_number-brigade.new.unread.bytes.now c.read_number-brigade.result
    (sym c.take.ensures.found ∙ c.if-take.false) c.take.ensures.rest c.read_number-brigade.ensures.value c.read_number-brigade.ensures.rest).1
