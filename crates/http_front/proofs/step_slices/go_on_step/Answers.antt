use Rattle.std.proofs.Common.{inl, refl, subst, sym}
use Rattle.std.proofs.lemmas.Result.{err_from_is_err_and}
use Rattle.http_front.specs.Stepping.{DoesStep}
use Rattle.http_front.specs.Texts.{text_of}
use Rattle.http_front.proofs.BeginLaws.{near_done, under_does}
use Rattle.http_front.proofs.Beside.{lack_named}
use Rattle.http_front.proofs.step_slices.go_on_step.Goals as goal

pub returns-in_ok-step-in-Done-clause-ok : goal.returns-in_ok-step-in-Done-clause-ok
returns-in_ok-step-in-Done-clause-ok g c site eof old way =
    subst (λ h. DoesStep site (λ old. g.P.Pace.comes old c.args.number) g.K.Clock.tells old c.args.clock.now c.args.seen.now eof c.in_ok-step-in-Done.step
    (text_of c.send.new.text) h c.send.new.clock) (sym c.in_ok-step-in-Done.ensures.still)
    (under_does site (λ old. g.P.Pace.comes old c.args.number) (λ old. g.P.Pace.rests old c.args.number) g.K.Clock.tells c.args.clock.now c.send.new.clock
    c.args.seen.now c.front-low.result.now eof c.args.under_way c.in-Done.outcome old c.args.handler.now c.go_on.new.handler c.in_ok-step-in-Done.step (text_of c.send.new.text)
    c.front-low.ensures.is way (near_done (λ o z. g.P.Pace.rests c.args.handler.now c.args.number c.args.under_way.task o z)
    (λ k o z. g.P.Pace.rests c.go_on.new.handler c.args.number k o z) c.go_on.new.handler c.in_ok-outcome.field-0 c.in-Done.outcome c.in-Done.is
    c.in_ok-outcome.ensures.ok) c.in_ok-step-in-Done.ensures.ok)

pub returns-in_err-outcome : goal.returns-in_err-outcome
returns-in_err-outcome g c =
    let p = err_from_is_err_and c.from_residual.result c.from_residual.ensures.1 in
    let w = c.go_on.ensures in
    let why = c.in_err-outcome.ensures.err in
    rw (p.1, p.2) (record { «open» = w.open; beside = w.beside; clock = λ from so. so; ok = tt; err = (why.0, λ is. why.1); few = w.few })

pub returns-in_err-step-in-Done : goal.returns-in_err-step-in-Done
returns-in_err-step-in-Done g c =
    let p = err_from_is_err_and c.from_residual-in_err-step-in-Done.result c.from_residual-in_err-step-in-Done.ensures.1 in
    let w = c.go_on.ensures in
    rw (p.1, p.2, c.send.ensures.still) (record { «open» = w.open; beside = w.beside; clock = c.send.ensures.clock; ok = tt; err = (inl refl, λ is. lack_named is); few = w.few })
