-- The lines are taken in turn, and then what follows them is judged.
use Rattle.std.proofs.lemmas.Result.{err_from_is_err_and}
use Rattle.module_lang.specs.Drafts.{empty_draft}
use Rattle.module_lang.proofs.TextLaws.{text_judged, text_refused}
use Rattle.module_lang.proofs.assembler.read_lines.Goals as goal

pub returns-in_err-last-clause-draft : goal.returns-in_err-last-clause-draft
returns-in_err-last-clause-draft c =
    let p = err_from_is_err_and c.from_residual.result c.from_residual.ensures.1 in
    rw (p.1, p.2) (text_refused c.args.text.now c.args.long empty_draft c.args.draft.now c.take_lines.new.reader c.in_err-last.field-0.0 c.requires.empty c.in_err-last.ensures.refused)

pub returns-clause-draft : goal.returns-clause-draft
returns-clause-draft c =
    let l = c.in_ok-last.ensures in
    text_judged c.args.text.now c.args.long empty_draft c.args.draft.now c.take_lines.new.reader c.in_ok-last.last.number c.in_ok-last.last.start c.end_lines.result
    c.requires.empty l.last.0 l.last.1 l.taken c.end_lines.ensures
