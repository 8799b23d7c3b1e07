-- The word, and a number behind it.
use Rattle.std.proofs.Common.{sym, ◌∙◌}
use Rattle.life_cert.proofs.SayingLaws.{no_same_number, same_found}
use Rattle.life_cert.proofs.draft.same_number.Goals as goal

pub returns-in-Some : goal.returns-in-Some
returns-in-Some c =
    same_found c.args.rest.now c.take.new.self.bytes.now c.in-Some.number (sym c.take.ensures.found ∙ c.if-not-take.false) c.take.ensures.rest (sym c.decimal_u32.ensures ∙ c.in-Some.is)

pub returns-in-None : goal.returns-in-None
returns-in-None c =
    no_same_number c.args.rest.now c.take.new.self.bytes.now (sym c.take.ensures.found ∙ c.if-not-take.false) c.take.ensures.rest (sym c.decimal_u32.ensures ∙ c.in-None.is)
