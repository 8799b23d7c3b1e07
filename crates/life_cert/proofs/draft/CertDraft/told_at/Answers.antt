-- A line that is not there, has no state, or names another line says none.
use Rattle.std.proofs.Common.{◌≡◌, List, Option, get_or, None, Some, sym, ap, ◌∙◌, arith, rules}
use Rattle.std.specs.Prelude.{slice_get}
use Rattle.life_state.specs.declared.state.State as known
use Rattle.life_state.specs.Seen.{seen, seen_some}
use Rattle.life_check.specs.Seen.{seen_line}
use Rattle.life_cert.specs.CertText.{first_with}
use Rattle.life_cert.specs.Drafts.{seen_draft}
use Rattle.life_cert.proofs.Lines.{line_at}
use Rattle.life_cert.proofs.SayingLaws.{untold}
use Rattle.life_cert.proofs.draft.CertDraft.told_at.Goals as goal

pub returns-then-number-len : goal.returns-then-number-len
returns-then-number-len c = untold _ _ c.args.number (λ w. (let low = w.below in omega (arith, low)))

pub returns-in-None : goal.returns-in-None
returns-in-None c =
    let at : get_or c.args.self.now.at.items c.args.number c.index.result.now ≡ c.index.result.now = search rules in
    let none : seen_line (slice_get c.args.self.now.at.items c.args.number) ≡ None = line_at c.args.self.now.at.items c.args.number c.index.result.now (omega arith) ∙ ap seen_some at ∙ ap seen_some c.in-None.is in
    untold _ _ c.args.number (λ w. (let here = w.here in cc (none, here)))

pub returns-in-None-first_with : goal.returns-in-None-first_with
returns-in-None-first_with c =
    let at : get_or c.args.self.now.at.items c.args.number c.index.result.now ≡ c.index.result.now = search rules in
    let here : seen_line (slice_get c.args.self.now.at.items c.args.number) ≡ Some (seen c.in-Some.state) = line_at c.args.self.now.at.items c.args.number c.index.result.now (omega arith) ∙ ap seen_some at ∙ ap seen_some c.in-Some.is in
    let first : first_with (seen_draft c.args.self.now).at c.args.number (seen c.in-Some.state) ≡ None = ap (λ (xs : List (Option known.State)). first_with (λ k. seen_line (slice_get xs k)) c.args.number (seen c.in-Some.state)) (sym c.as_slice.ensures.value) ∙ sym c.first_with.ensures ∙ c.in-None-first_with.is in
    (omega arith, here, first)

pub returns-in-Some-first_with : goal.returns-in-Some-first_with
returns-in-Some-first_with c =
    let at : get_or c.args.self.now.at.items c.args.number c.index.result.now ≡ c.index.result.now = search rules in
    let here : seen_line (slice_get c.args.self.now.at.items c.args.number) ≡ Some (seen c.in-Some.state) = line_at c.args.self.now.at.items c.args.number c.index.result.now (omega arith) ∙ ap seen_some at ∙ ap seen_some c.in-Some.is in
    let first : first_with (seen_draft c.args.self.now).at c.args.number (seen c.in-Some.state) ≡ Some c.in-Some-first_with.field-0 = ap (λ (xs : List (Option known.State)). first_with (λ k. seen_line (slice_get xs k)) c.args.number (seen c.in-Some.state)) (sym c.as_slice.ensures.value) ∙ sym c.first_with.ensures ∙ c.in-Some-first_with.is in
    untold _ _ c.args.number (λ w. (let there = w.here in let none = w.first in cc (here, there, first, none)))
