-- The lines are taken in turn, and then what follows them is judged.
use Rattle.std.proofs.Common.{◌≡◌, ℕ, ◌-◌, List, [], length, take, drop, Ok, Err, subst, ◌∙◌, arith, length-drop}
use Rattle.std.proofs.lemmas.Result.{err_from_is_err_and}
use Rattle.byte_text.specs.TextLines.{lines_from, rest_from}
use Rattle.std.proofs.lemmas.List.{take_all}
use Rattle.life_cert.specs.Reading.{EndTold, more_than}
use Rattle.life_cert.proofs.ReadLaws.{end_told, read_whole, refused_told}
use Rattle.life_cert.proofs.read.read_lines.Goals as goal

pub returns-in_err-last-clause-told : goal.returns-in_err-last-clause-told
returns-in_err-last-clause-told c =
    let p = err_from_is_err_and c.from_residual.result c.from_residual.ensures.1 in
    let text = c.args.text.now in
    rw (p.1, p.2) (refused_told (more_than c.args.long (rest_from [] text))
    (lines_from [] text) c.new-draft.result c.take_lines.new.reader c.in_err-last.field-0.0 c.new-draft.ensures.begun c.in_err-last.ensures.refused)

pub returns-in_err-end_lines-clause-told : goal.returns-in_err-end_lines-clause-told
returns-in_err-end_lines-clause-told c =
    let p = err_from_is_err_and c.from_residual-in_err-end_lines.result c.from_residual-in_err-end_lines.ensures.1 in
    let l = c.in_ok-last.ensures in
    let text = c.args.text.now in
    let start = c.in_ok-last.last.start in
    let size : length (drop start text) ≡ length text - start = length-drop start text in
    let rest : take (length text - start) (drop start text) ≡ rest_from [] text = take_all (length text - start) (drop start text) (omega (arith, size)) ∙ l.last.1 in
    let end = subst (λ (r : List ℕ). EndTold (more_than c.args.long r) c.take_lines.new.reader.due c.in_ok-last.last.number (Err c.in_err-end_lines.field-0.0)) rest c.in_err-end_lines.ensures in
    rw (p.1, p.2) (end_told (more_than c.args.long (rest_from [] text))
    (lines_from [] text) c.new-draft.result c.take_lines.new.reader c.in_ok-last.last.number c.in_err-end_lines.field-0.0 c.new-draft.ensures.begun l.taken l.last.0 end)

pub returns-clause-right : goal.returns-clause-right
returns-clause-right c =
    let l = c.in_ok-last.ensures in
    let text = c.args.text.now in
    let start = c.in_ok-last.last.start in
    let size : length (drop start text) ≡ length text - start = length-drop start text in
    let rest : take (length text - start) (drop start text) ≡ rest_from [] text = take_all (length text - start) (drop start text) (omega (arith, size)) ∙ l.last.1 in
    let end = subst (λ (r : List ℕ). EndTold (more_than c.args.long r) c.take_lines.new.reader.due c.in_ok-last.last.number (Ok tt)) rest c.in_ok-end_lines.ensures in
    read_whole c.args.long text c.new-draft.result c.take_lines.new.reader c.in_ok-last.last.number c.new-draft.ensures.begun l.ready l.taken end c.requires
