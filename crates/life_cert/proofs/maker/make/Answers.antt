-- The certificate of the rounds is the least; where some is accepted, the check finds nothing in it.
use Rattle.std.proofs.Common.{◌≡◌, true, length, ◌==◌, Some, None, refl, sym, subst, ◌∙◌, ap, rules}
use Rattle.std.proofs.lemmas.Bool.{eq-eqb}
use Rattle.std.proofs.lemmas.Result.{err_from_is_err_and}
use Rattle.module_code.specs.Program.{Program}
use Rattle.life_state.proofs.Tests.{and3}
use Rattle.life_check.specs.Versions.{names_shape, version_two}
use Rattle.life_check.specs.Certificates.{Certificate}
use Rattle.life_check.specs.Seen.{seen_cert}
use Rattle.life_check.specs.Slim.{cert_refusal, Accepts}
use Rattle.life_check.specs.Typed.{first_refusal, IsTyped}
use Rattle.life_check.proofs.Meant.{whole_means, whole_refusal}
use Rattle.life_check.specs.declared.refusal.CheckRefusal.{CheckRefusal}
use Rattle.life_cert.specs.Least.{IsBelow}
use Rattle.life_cert.proofs.Least.{made_is_least}
use Rattle.life_cert.proofs.LeastTyped.{refuses_only_then}
use Rattle.life_cert.proofs.OnlyFaults.{refused_by_fault}
use Rattle.life_cert.proofs.maker.make.Goals as goal

own_shape : (p : Program) → names_shape p (version_two p) ≡ true
own_shape p =
    and3 (length p.pools == length p.pools) (length p.brigades == length p.brigades) (length p.code == length p.code) (eq-eqb (length p.pools) (length p.pools) refl)
    (eq-eqb (length p.brigades) (length p.brigades) refl) (eq-eqb (length p.code) (length p.code) refl)

none_some : (r : CheckRefusal) → None ≡ Some r → ⊥
none_some r e = cc

pub returns-clause-least : goal.returns-clause-least
returns-clause-least c = λ other formed typed.
    subst (λ (d : Certificate). IsBelow d other) (sym c.in_ok-cert.ensures.made) (made_is_least c.args.code.now other c.in_ok-cert.ensures.proper formed typed)

pub returns-clause-accepted : goal.returns-clause-accepted
returns-clause-accepted c = c.in_ok-check.ensures.accepts.0 refl

pub returns-clause-typed : goal.returns-clause-typed
returns-clause-typed c =
    let a : Accepts c.args.code.now c.in_ok-cert.cert = c.in_ok-check.ensures.accepts.0 refl in
    subst (IsTyped c.args.code.now) (whole_means c.args.code.now c.in_ok-cert.cert c.in_ok-cert.ensures.whole) a.typed

pub returns-in_err-check-clause-complete : goal.returns-in_err-check-clause-complete
returns-in_err-check-clause-complete c = λ refused other formed typed.
    let p = c.args.code.now in
    let told : cert_refusal p c.in_ok-cert.cert ≡ Some c.in_err-check.field-0.0 = search rules in
    let found : first_refusal p (seen_cert c.in_ok-cert.cert) ≡ Some c.in_err-check.field-0.0 = sym (whole_refusal p c.in_ok-cert.cert (ap (names_shape p) c.in_ok-cert.ensures.version ∙ own_shape p) c.in_ok-cert.ensures.whole) ∙ told in
    none_some c.in_err-check.field-0.0 (sym (refuses_only_then p other c.in_ok-cert.ensures.proper formed typed) ∙ (ap (first_refusal p) (sym c.in_ok-cert.ensures.made) ∙ found))

pub returns-clause-safe : goal.returns-clause-safe
returns-clause-safe c = c.in_ok-check.ensures.safe refl

pub returns-in_err-check-clause-fault : goal.returns-in_err-check-clause-fault
returns-in_err-check-clause-fault c =
    let p = c.args.code.now in
    let from = err_from_is_err_and c.from_residual-in_err-check.result c.from_residual-in_err-check.ensures.1 in
    let told : cert_refusal p c.in_ok-cert.cert ≡ Some c.in_err-check.field-0.0 = search rules in
    let found : first_refusal p (seen_cert c.in_ok-cert.cert) ≡ Some c.in_err-check.field-0.0 = sym (whole_refusal p c.in_ok-cert.cert (ap (names_shape p) c.in_ok-cert.ensures.version ∙ own_shape p) c.in_ok-cert.ensures.whole) ∙ told in
    let why = c.in_err-check.field-0.0 in
    rw (from.1, from.2) (refused_by_fault p c.in_ok-cert.ensures.proper why.pc why.rule (ap (first_refusal p) (sym c.in_ok-cert.ensures.made) ∙ found))
