-- What a line says keeps a draft sound.
use Rattle.std.proofs.Common.{sym, subst}
use Rattle.module_lang.specs.Entries.{IsDraft}
use Rattle.module_lang.proofs.DraftLaws.{entered_keeps}
use Rattle.module_lang.proofs.SaysLaws.{line_says}
use Rattle.module_lang.proofs.entry.DraftTakesLines.take_line.Goals as goal

pub returns-in_ok-enter-in-Ok-clause-next : goal.returns-in_ok-enter-in-Ok-clause-next
returns-in_ok-enter-in-Ok-clause-next c =
    let says = line_says c.args.self.now c.args.line.now c.in-Ok.said (sym c.in-Ok.ensures) in
    subst IsDraft (sym c.in_ok-enter-in-Ok.ensures) (entered_keeps c.args.self.now c.args.number c.args.line.now c.in-Ok.said c.requires says)
