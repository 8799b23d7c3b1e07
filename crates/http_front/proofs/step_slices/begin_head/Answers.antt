use Rattle.std.proofs.Common.{inl, refl, subst, sym}
use Rattle.std.proofs.lemmas.Result.{err_from_is_err_and}
use Rattle.http_front.specs.Stepping.{DoesStep}
use Rattle.http_front.specs.Texts.{text_of}
use Rattle.http_front.specs.UnderWays.{BeginsHead}
use Rattle.http_front.proofs.Beside.{lack_named}
use Rattle.http_front.proofs.BeginLaws.{found_does, found_works}
use Rattle.http_front.proofs.step_slices.begin_head.Goals as goal

pub returns-in_ok-step-in-Done-clause-ok : goal.returns-in_ok-step-in-Done-clause-ok
returns-in_ok-step-in-Done-clause-ok g c eof =
    subst (λ h. DoesStep c.args.site.now (λ old. g.P.Pace.comes old c.args.number) g.K.Clock.tells c.args.handler.now c.args.clock.now c.args.seen.now eof
    c.in_ok-step-in-Done.step (text_of c.send.new.text) h c.send.new.clock) (sym c.in_ok-step-in-Done.ensures.still)
    (found_does c.args.site.now (λ old. g.P.Pace.comes old c.args.number) (λ old. g.P.Pace.rests old c.args.number) g.K.Clock.tells c.args.clock.now
    c.send.new.clock c.args.seen.now c.args.spans.now eof c.args.head c.asked_by-asked.result c.in-Done.outcome c.args.handler.now c.begin_wanted.new.handler
    c.in_ok-step-in-Done.step (text_of c.send.new.text) c.requires.within c.requires.room c.requires.found c.asked_by-asked.ensures.head c.asked_by-asked.ensures.by
    (subst (λ x. BeginsHead c.args.site.now (λ old. g.P.Pace.comes old c.args.number)
    (λ old. g.P.Pace.rests old c.args.number) c.requires.found.0 c.args.handler.now x c.begin_wanted.new.handler) c.in-Done.is
    (c.in_ok-outcome.ensures.ok c.args.site.now c.requires.found.0 (c.in_ok-wanted.ensures c.requires.found.0 c.requires.found.1)
    (c.asked_by-asked.ensures.by c.requires.found.0 c.requires.found.1).method)) c.in_ok-step-in-Done.ensures.ok)

pub returns-in-Works-clause-ok : goal.returns-in-Works-clause-ok
returns-in-Works-clause-ok g c eof = (
  found_works c.args.site.now (λ old. g.P.Pace.comes old c.args.number) (λ old. g.P.Pace.rests old c.args.number) c.args.seen.now c.args.spans.now c.args.head
      c.asked_by-asked.result c.in-Works.task c.args.handler.now c.begin_wanted.new.handler c.requires.within c.requires.room c.requires.size c.requires.found
      c.asked_by-asked.ensures.head c.asked_by-asked.ensures.by (subst (λ x. BeginsHead c.args.site.now (λ old. g.P.Pace.comes old c.args.number)
      (λ old. g.P.Pace.rests old c.args.number) c.requires.found.0 c.args.handler.now x c.begin_wanted.new.handler) c.in-Works.is
      (c.in_ok-outcome.ensures.ok c.args.site.now c.requires.found.0 (c.in_ok-wanted.ensures c.requires.found.0 c.requires.found.1)
      (c.asked_by-asked.ensures.by c.requires.found.0 c.requires.found.1).method)),
  refl,
  c.requires.empty,
)

pub returns-in_err-wanted : goal.returns-in_err-wanted
returns-in_err-wanted g c =
    let p = err_from_is_err_and c.from_residual.result c.from_residual.ensures.1 in
    rw (p.1, p.2) (record { «open» = c.requires.open; beside = λ from so. so; clock = λ from so. so; ok = tt; err = (inl refl, λ is. lack_named is); few = g.met.P.Pace.steps_none _ _ _ })

pub returns-in_err-outcome : goal.returns-in_err-outcome
returns-in_err-outcome g c =
    let p = err_from_is_err_and c.from_residual-in_err-outcome.result c.from_residual-in_err-outcome.ensures.1 in
    let why = c.in_err-outcome.ensures.err in
    rw (p.1, p.2) (record {
      «open» = c.begin_wanted.ensures.open;
      beside = c.begin_wanted.ensures.beside;
      clock = λ from so. so;
      ok = tt;
      few = c.begin_wanted.ensures.few;
      err = (why.0, λ names h at. why.1 names c.args.site.now h (c.in_ok-wanted.ensures h at) (c.asked_by-asked.ensures.by h at).method);
    })

pub returns-in_err-step-in-Done : goal.returns-in_err-step-in-Done
returns-in_err-step-in-Done g c =
    let p = err_from_is_err_and c.from_residual-in_err-step-in-Done.result c.from_residual-in_err-step-in-Done.ensures.1 in
    let b = c.begin_wanted.ensures in
    rw (p.1, p.2, c.send.ensures.still) (record { «open» = b.open; beside = b.beside; clock = c.send.ensures.clock; ok = tt; err = (inl refl, λ is. lack_named is); few = b.few })
