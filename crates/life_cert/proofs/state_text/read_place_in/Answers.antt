-- By the sign that stands in front.
use Rattle.std.proofs.Common.{codes, sym, ap, ◌∙◌}
use Rattle.life_state.specs.declared.parts.Classes.{Classes}
use Rattle.life_state.specs.States.{CursorKnown, In, InOrEnd}
use Rattle.life_cert.specs.StateFromText.{at_past}
use Rattle.life_cert.proofs.StateWords.{at_bucket, at_either, past_found}
use Rattle.life_cert.proofs.state_text.read_place_in.Goals as goal

pub returns-then-take-clause-rest : goal.returns-then-take-clause-rest
unfolding at_past
returns-then-take-clause-rest c =
    let e = sym c.take.ensures.found ∙ c.if-take.true in
    rw e (c.take.ensures.rest ∙ past_found (codes "$") c.args.unread.now.bytes.now e)

pub returns-then-take-2-clause-value : goal.returns-then-take-2-clause-value
returns-then-take-2-clause-value c =
    ap (λ (k : Classes). (let v : CursorKnown = InOrEnd c.args.brigade k in v)) c.read_classes.ensures.value
    ∙ (at_either c.args.brigade c.args.unread.now.bytes.now c.take.new.self.bytes.now c.take-2.new.self.bytes.now (sym c.take.ensures.found ∙ c.if-take.false) c.take.ensures.rest
    (sym c.take-2.ensures.found ∙ c.if-take-2.true) c.take-2.ensures.rest).0

pub returns-then-take-2-clause-rest : goal.returns-then-take-2-clause-rest
returns-then-take-2-clause-rest c =
    c.read_classes.ensures.rest
    ∙ (at_either c.args.brigade c.args.unread.now.bytes.now c.take.new.self.bytes.now c.take-2.new.self.bytes.now (sym c.take.ensures.found ∙ c.if-take.false) c.take.ensures.rest
    (sym c.take-2.ensures.found ∙ c.if-take-2.true) c.take-2.ensures.rest).1

pub returns-clause-value : goal.returns-clause-value
returns-clause-value c =
    ap (λ (k : Classes). (let v : CursorKnown = In c.args.brigade k in v)) c.read_classes-2.ensures.value
    ∙ (at_bucket c.args.brigade c.args.unread.now.bytes.now c.take.new.self.bytes.now c.take-2.new.self.bytes.now c.skip.new.self.bytes.now
    (sym c.take.ensures.found ∙ c.if-take.false) c.take.ensures.rest (sym c.take-2.ensures.found ∙ c.if-take-2.false) c.take-2.ensures.rest c.skip.ensures).0

pub returns-clause-rest : goal.returns-clause-rest
returns-clause-rest c =
    c.read_classes-2.ensures.rest
    ∙ (at_bucket c.args.brigade c.args.unread.now.bytes.now c.take.new.self.bytes.now c.take-2.new.self.bytes.now c.skip.new.self.bytes.now
    (sym c.take.ensures.found ∙ c.if-take.false) c.take.ensures.rest (sym c.take-2.ensures.found ∙ c.if-take-2.false) c.take-2.ensures.rest c.skip.ensures).1
