-- The shape of what is given, and then what is meant.
use Rattle.std.proofs.Common.{◌≡◌, true, Some, sym, ap, ◌∙◌, rules}
use Rattle.life_check.specs.declared.refusal.Rule.TheVariants.{Shape}
use Rattle.life_check.specs.Slim.{meant}
use Rattle.life_check.specs.Typed.{unless}
use Rattle.life_check.proofs.Firsts.{unless_none, unless_refused}
use Rattle.life_check.proofs.Meant.{all_bounded, meant_formed, refused_by_shape}
use Rattle.life_check.proofs.checked.check_states.Goals as goal

pub returns-in_err-unless-clause-first : goal.returns-in_err-unless-clause-first
returns-in_err-unless-clause-first c =
    let p = c.args.code.now in
    let d = c.args.cert.now in
    let told : unless c.has_shape.result 0 Shape ≡ Some c.in_err-unless.field-0.0 = search rules in
    let both = unless_refused c.has_shape.result 0 Shape c.in_err-unless.field-0.0 told in
    let found = refused_by_shape p d (sym c.has_shape.ensures.value ∙ both.0) ∙ ap (λ x. Some x) (both.1) in
    search rules

pub returns-clause-formed : goal.returns-clause-formed
returns-clause-formed c = λ ok.
    let shaped : c.has_shape.result ≡ true = unless_none c.has_shape.result 0 Shape c.in_ok-unless.ensures in
    meant_formed c.args.code.now c.args.cert.now c.check_meant.ensures.proper (sym c.has_shape.ensures.value ∙ shaped) (c.has_shape.ensures.formed shaped)

pub returns-clause-bounded : goal.returns-clause-bounded
returns-clause-bounded c = λ ok. all_bounded (meant c.args.code.now c.args.cert.now) (returns-clause-formed c ok)
