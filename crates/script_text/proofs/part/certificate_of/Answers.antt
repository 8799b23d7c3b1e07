use Rattle.script_text.proofs.PartLaws.{made_certified}
use Rattle.script_text.proofs.part.certificate_of.Goals as goal

pub returns-in-Ok : goal.returns-in-Ok
returns-in-Ok c = made_certified c.args.code.now c.args.cert c.in-Ok.cert c.in_default.is c.in-Ok.ensures.version c.in-Ok.ensures.whole c.in-Ok.ensures.typed c.in-Ok.ensures.made
