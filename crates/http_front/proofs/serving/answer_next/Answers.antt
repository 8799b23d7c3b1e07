use Rattle.std.proofs.Common.{sym, subst}
use Rattle.std.proofs.lemmas.Result.{err_from_is_err_and}
use Rattle.http_message.specs.ReadBuffers.{unread}
use Rattle.http_front.specs.Serving.{ServeGoes}
use Rattle.http_front.specs.Stepping.{DoesStep}
use Rattle.http_front.specs.Talking.{StepFollows, pending}
use Rattle.http_front.specs.declared.steps.ServeStep.{ServeStep}
use Rattle.http_front.proofs.NextLaws.{few_put, goes_put, less_put, slice_lacks, slice_step, stays_some, step_few, step_less, wants_more, wants_put}
use Rattle.http_front.proofs.ServedLaws.{fails_as}
use Rattle.http_front.proofs.ServingLaws.{far_lacks_by}
use Rattle.http_front.proofs.serving.answer_next.Given.{Over}
use Rattle.http_front.proofs.serving.answer_next.Goals as goal

-- what the slice did is a step, since no request is ever under way
made : (g : Over) (c : goal.After-put_all g)
    → (s : ServeStep) × DoesStep c.args.site.now (λ h. g.H.Handler.handles h c.args.number) g.K.Clock.tells c.args.handler.now c.args.clock.now (unread c.args.conn.now.read_buffer)
    c.args.conn.now.eof s (pending c.step.new.self) c.step.new.handler c.step.new.clock × StepFollows s c.args.conn.now c.step.new.self
made g c =
    let did = c.in_ok-step.ensures.did in
    slice_step c.args.site.now (λ h. g.H.Handler.handles h c.args.number) (λ h k o z. ⊥) g.K.Clock.tells
    (λ t. elim t [ ]) c.args.conn.now.hand did.0 c.args.conn.now c.step.new.self (unread c.args.conn.now.read_buffer) c.args.conn.now.eof c.args.handler.now
    c.step.new.handler c.args.clock.now c.step.new.clock (pending c.step.new.self) did.1 did.2

pub returns-clause-goes : goal.returns-clause-goes
returns-clause-goes g c old before r q w ends so =
    let x = made g c in
    subst (λ h. ServeGoes c.args.site.now (λ k. g.H.Handler.handles k c.args.number) g.K.Clock.tells (λ k. g.H.Handler.lacks k c.args.number) old before r q w
    (g.W.Sink.contents c.put_all.new.sink) c.put_all.new.self.over (unread c.put_all.new.self.read_buffer) c.put_all.new.self.requests h c.step.new.clock c.put_all.result) (sym c.put_all.ensures.still)
    (goes_put c.args.site.now (λ h. g.H.Handler.handles h c.args.number) g.K.Clock.tells c.args.conn.now c.step.new.self c.args.handler.now c.step.new.handler
    c.args.clock.now c.step.new.clock (pending c.step.new.self) old before r q w (g.W.Sink.contents c.args.sink.now) (g.W.Sink.contents c.put_all.new.sink) so ends
    (λ h. g.H.Handler.lacks h c.args.number) c.put_all.new.self x.0 c.put_all.result c.requires.few x.1 x.2 c.put_all.ensures.over c.put_all.ensures.read_buffer
    c.put_all.ensures.requests c.put_all.ensures.ok c.put_all.ensures.err)

pub returns-in_err-step-clause-goes : goal.returns-in_err-step-clause-goes
returns-in_err-step-clause-goes g c old before r q w ends so =
    let p = err_from_is_err_and c.from_residual.result c.from_residual.ensures.1 in
    let e = c.in_err-step.field-0.0 in
    fails_as c.args.site.now (λ h. g.H.Handler.handles h c.args.number) g.K.Clock.tells (λ h. g.H.Handler.lacks h c.args.number) old before r q w
    (g.W.Sink.contents c.args.sink.now) c.step.new.self.over (unread c.step.new.self.read_buffer) c.step.new.self.requests c.step.new.handler c.step.new.clock c.from_residual.result p.0 e p.1 p.2
    (far_lacks_by c.args.site.now (λ h. g.H.Handler.handles h c.args.number) g.K.Clock.tells (λ h. g.H.Handler.lacks h c.args.number) old before r q w
    (g.W.Sink.contents c.args.sink.now) (unread c.args.conn.now.read_buffer) c.args.conn.now.eof c.args.conn.now.requests c.args.handler.now c.step.new.handler c.args.clock.now c.step.new.clock e so ends
    (slice_lacks c.args.site.now (λ h. g.H.Handler.lacks h c.args.number) (λ h k o z. ⊥)
    (λ t. elim t [ ]) c.args.conn.now.hand c.args.handler.now c.step.new.handler (unread c.args.conn.now.read_buffer) c.args.conn.now.eof e c.in_err-step.ensures.lacks))

pub returns-clause-few : goal.returns-clause-few
returns-clause-few g c =
    let x = made g c in
    few_put c.put_all.result c.args.conn.now c.step.new.self c.put_all.new.self c.put_all.ensures.over c.put_all.ensures.needs_input c.put_all.ensures.read_buffer c.put_all.ensures.requests
    (step_few c.args.site.now _ _ c.args.conn.now c.step.new.self _ _ _ _ _ x.0 c.requires.few x.1 x.2)

pub returns-clause-less : goal.returns-clause-less
returns-clause-less g c =
    let x = made g c in
    less_put c.put_all.result c.args.conn.now c.step.new.self c.put_all.new.self c.put_all.ensures.over c.put_all.ensures.needs_input c.put_all.ensures.read_buffer c.put_all.ensures.requests
    (step_less x.0 c.args.conn.now c.step.new.self c.requires.going c.requires.ready x.2 (stays_some c.args.site.now _ _ x.0 (unread c.args.conn.now.read_buffer) c.args.conn.now.eof _ _ _ _ _ x.1))

pub returns-clause-needs_input : goal.returns-clause-needs_input
returns-clause-needs_input g c =
    let x = made g c in
    wants_put c.put_all.result c.args.conn.now c.step.new.self c.put_all.new.self c.put_all.ensures.over c.put_all.ensures.needs_input c.put_all.ensures.read_buffer c.put_all.ensures.requests
    (wants_more c.args.site.now _ _ c.args.conn.now c.step.new.self _ _ _ _ _ x.0 c.requires.ready x.1 x.2)
