-- One that does not fit decides, and all do where the loop ends.
use Rattle.std.proofs.Common.{◌≡◌, ◌<◌, ◌≤◌, ℕ, Bool, true, false, length, Option, IfSome, sym, ◌∙◌, ap, subst, arith, rules, ⊎_elim}
use Rattle.std.proofs.lemmas.Bool.{cases_lt}
use Rattle.std.proofs.lemmas.Option.{slice_get_past}
use Rattle.life_state.specs.Form.{IsFormed}
use Rattle.life_state.specs.States.{State}
use Rattle.life_check.specs.declared.cert.Cert.{Cert}
use Rattle.life_check.specs.Seen.{seen_line, seen_cert}
use Rattle.life_check.specs.Typed.{fits_line}
use Rattle.life_state.proofs.Below.{all_below_holds, all_below_fails}
use Rattle.life_check.proofs.shape.fits_lines.Goals as goal

abbrev IsStateSound : Option State → Type 0
IsStateSound o = IfSome o IsFormed

-- no state is given past the last line
past_sound : (c : Cert) (pc : ℕ) → length c.at.items ≤ pc → IsStateSound ((seen_cert c).at pc)
past_sound c pc le = subst (λ o. IsStateSound (seen_line o)) (sym (slice_get_past c.at.items pc le)) tt

pub loop-pc-preserved : goal.loop-pc-preserved
loop-pc-preserved c =
    let line : ℕ → Type 0 = λ k. (fits_line c.args.code.now k ((seen_cert c.args.cert.now).at k) ≡ true) × IsStateSound ((seen_cert c.args.cert.now).at k) in
    let here : line c.loop-pc.pc = (
      sym (ap (fits_line c.args.code.now c.loop-pc.pc) c.state.ensures) ∙ (sym c.fits_line-fits.ensures.value ∙ c.if-not-fits.false),
      subst (λ (o : Option State). IsStateSound o) c.state.ensures (c.fits_line-fits.ensures.formed c.if-not-fits.false),
    ) in
    λ k below. ⊎_elim (λ (lt : k < c.loop-pc.pc). c.loop-pc.invariant k lt) (λ (le : c.loop-pc.pc ≤ k). subst line (let same : c.loop-pc.pc ≡ k = omega arith in same) here) (cases_lt k c.loop-pc.pc)

pub returns-then-not-fits-clause-value : goal.returns-then-not-fits-clause-value
returns-then-not-fits-clause-value c =
    let holds : ℕ → Bool = λ k. fits_line c.args.code.now k ((seen_cert c.args.cert.now).at k) in
    let here : holds c.loop-pc.pc ≡ false = search rules in
    sym (all_below_fails (length c.args.cert.now.at.items) c.loop-pc.pc holds (omega arith) here)

pub returns-clause-value : goal.returns-clause-value
returns-clause-value c =
    let holds : ℕ → Bool = λ k. fits_line c.args.code.now k ((seen_cert c.args.cert.now).at k) in
    sym (all_below_holds (length c.args.cert.now.at.items) holds (λ k below. (c.loop-pc.invariant k (omega arith)).0))

pub returns-clause-formed : goal.returns-clause-formed
returns-clause-formed c = λ fit pc. ⊎_elim (λ (lt : pc < length c.args.cert.now.at.items). (c.loop-pc.invariant pc (omega arith)).1)
    (λ (le : length c.args.cert.now.at.items ≤ pc). past_sound c.args.cert.now pc le) (cases_lt pc (length c.args.cert.now.at.items))
