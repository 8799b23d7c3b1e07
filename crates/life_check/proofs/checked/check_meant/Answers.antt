-- What is meant has the shape; then the first refusal is that of the parts.
use Rattle.std.proofs.Common.{◌≡◌, Bool, subst, Some, None, length, rules}
use Rattle.life_check.specs.declared.refusal.Rule.TheVariants.{Request}
use Rattle.life_check.specs.Slim.{meant}
use Rattle.life_check.specs.Typed.{unless, IsAnswer, entry_refusal, refusal_at, first_below}
use Rattle.life_check.proofs.Meant.{meant_shaped, entry_first, lines_first, last_first}
use Rattle.life_check.proofs.checked.check_meant.Goals as goal

pub returns-in_err-check_entries-clause-first : goal.returns-in_err-check_entries-clause-first
returns-in_err-check_entries-clause-first c =
    let p = c.args.code.now in
    let d = c.args.cert.now in
    let found : entry_refusal p (meant p d) ≡ Some c.in_err-check_entries.field-0.0 = search rules in
    let first = entry_first p (meant p d) c.in_err-check_entries.field-0.0 (meant_shaped p d c.len-count.ensures.sound c.requires.shape c.requires.formed) found in
    search rules

pub returns-in_err-check_lines-clause-first : goal.returns-in_err-check_lines-clause-first
returns-in_err-check_lines-clause-first c =
    let p = c.args.code.now in
    let d = c.args.cert.now in
    let entries : entry_refusal p (meant p d) ≡ None = search rules in
    let found : first_below (length p.code) (refusal_at p (meant p d)) ≡ Some c.in_err-check_lines.field-0.0 = search rules in
    let first = lines_first p (meant p d) c.in_err-check_lines.field-0.0 (meant_shaped p d c.len-count.ensures.sound c.requires.shape c.requires.formed) entries found in
    search rules

pub returns-clause-first : goal.returns-clause-first
returns-clause-first c =
    let p = c.args.code.now in
    let d = c.args.cert.now in
    let entries : entry_refusal p (meant p d) ≡ None = search rules in
    let lines : first_below (length p.code) (refusal_at p (meant p d)) ≡ None = search rules in
    last_first p (meant p d) c.unless.result (meant_shaped p d c.len-count.ensures.sound c.requires.shape c.requires.formed) entries lines
    (subst (λ (b : Bool). IsAnswer (unless b 0 Request) c.unless.result) c.requests.ensures c.unless.ensures)
