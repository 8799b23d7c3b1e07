use Rattle.std.proofs.Common.{ap, refl, subst, ◌∙◌}
use Rattle.std.proofs.lemmas.Result.{err_from_is_err_and}
use Rattle.http_message.specs.ReadBuffers.{unread}
use Rattle.http_front.specs.Texts.{text_of}
use Rattle.http_front.specs.UnderWays.{most_steps}
use Rattle.http_front.specs.declared.under_way.StepSlice.TheVariants as slice
use Rattle.http_front.proofs.BeginLaws.{follows_as, pending_all, stepped_ok}
use Rattle.http_front.proofs.TurnLaws.{lack_as, sized_lack}
use Rattle.http_front.proofs.http_conn.HttpConn.step.Goals as goal

pub returns-in-Did-clause-did : goal.returns-in-Did-clause-did
returns-in-Did-clause-did g c = (
  slice.Did c.in-Did.step,
  stepped_ok _ _ _ _ _ _ c.step_on-did.result _ _ _ _ _ _ _ _ _ _ _ c.in_ok-slice.ensures.ok.0 c.in-Did.is c.take-hand.ensures.value c.unread-seen.ensures
      (pending_all c.follow.new.self c.sized.new.text c.follow.ensures.sent c.follow.ensures.text ∙ ap text_of c.in_ok-slice.ensures.ok.1) c.step_on-did.ensures.ok,
  (follows_as c.in-Did.step _ c.args.self.now c.follow.new.self refl refl refl c.follow.ensures.follows, c.follow.ensures.hand ∙ c.take-hand.ensures.after),
)

pub returns-in-Works-clause-did : goal.returns-in-Works-clause-did
returns-in-Works-clause-did g c = (
  slice.Works c.in-Works.under_way,
  stepped_ok _ _ _ _ _ _ c.step_on-did.result _ _ _ _ _ _ _ _ _ _ _ c.in_ok-slice.ensures.ok.0 c.in-Works.is c.take-hand.ensures.value c.unread-seen.ensures
      (ap text_of c.in_ok-slice.ensures.ok.1) c.step_on-did.ensures.ok,
  (record { still = refl; needs_input = refl; over = c.requires.going; counted = refl }, refl),
)

pub returns-in_err-slice : goal.returns-in_err-slice
returns-in_err-slice g c =
    let p = err_from_is_err_and c.from_residual.result c.from_residual.ensures.1 in
    let e = c.in_err-slice.field-0.0 in
    let o = c.step_on-did.ensures in
    rw (p.1, p.2) (record {
      «open» = o.open;
      beside = o.beside;
      clock = o.clock;
      did = tt;
      eof = refl;
      none = c.in_err-slice.ensures.none;
      sent = refl;
      lacks =
          lack_as c.args.site.now (λ old. g.H.Handler.lacks old c.args.number) (λ old. g.P.Pace.lacks_rest old c.args.number) c.args.handler.now c.step_on-did.new.handler
          c.take-hand.result c.args.self.now.hand c.unread-seen.result.now (unread c.args.self.now.read_buffer) c.args.self.now.eof e c.take-hand.ensures.value c.unread-seen.ensures
          (sized_lack c.args.site.now (λ old. g.H.Handler.lacks old c.args.number) (λ old. g.P.Pace.lacks_rest old c.args.number) c.args.handler.now
          c.step_on-did.new.handler c.unread-seen.result.now c.args.self.now.eof (λ old. g.P.Pace.comes old c.args.number)
          (λ old. g.P.Pace.rests old c.args.number) g.K.Clock.tells c.args.clock.now c.step_on-did.new.clock
          (text_of c.step_on-did.new.text) c.take-hand.result c.step_on-did.result e o.ok o.err c.in_err-slice.ensures.err);
      few = subst (λ h. g.P.Pace.steps c.args.handler.now c.args.number (most_steps h) c.step_on-did.new.handler) c.take-hand.ensures.value o.few;
    })
