use Rattle.std.proofs.Common.{Bool, sym, subst, ◌∙◌, arith}
use Rattle.std.proofs.lemmas.Result.{err_from_is_err_and}
use Rattle.http_message.specs.ReadBuffers.{unread}
use Rattle.http_front.specs.Serving.{ServeStanding}
use Rattle.http_front.proofs.NextLaws.{next_step}
use Rattle.http_front.proofs.ServedLaws.{fails_as}
use Rattle.http_front.proofs.serving.answer_all.Goals as goal

pub loop-conn-preserved : goal.loop-conn-preserved
loop-conn-preserved g c =
    let at = next_step c.loop-conn.conn c.next.result (λ t. elim t [ ]) c.loop-conn.invariant.written c.next.ensures c.in_default.not-Over c.in_default.not-Reads in
    let e = c.in_ok-answer_next-in_default.ensures in
    let inv = c.loop-conn.invariant in
    record {
      opened = c.answer_next.ensures.open;
      beside = λ from so. c.answer_next.ensures.beside from (inv.beside from so);
      few = λ going. let one = e.few going in let all = inv.few at.0 in omega (arith, one, all);
      eof = c.answer_next.ensures.eof ∙ inv.eof;
      written = c.answer_next.ensures.written;
      needs_input = λ is. let w = e.needs_input is in (c.answer_next.ensures.eof ∙ w.0, w.1);
      sound = e.blames ∙ inv.sound;
      goes = λ old before r q w ends so.
          e.goes old before r q w (λ is. ends (sym inv.eof ∙ is)) (subst (λ (b : Bool). ServeStanding c.args.site.now (λ h. g.H.Handler.handles h c.args.number) g.K.Clock.tells old before r q w
          (g.W.Sink.contents c.loop-conn.sink) b (unread c.loop-conn.conn.read_buffer) c.loop-conn.conn.requests c.loop-conn.handler c.loop-conn.clock) at.0 (inv.goes old before r q w ends so));
    }

pub returns-in_err-answer_next-in_default-clause-goes : goal.returns-in_err-answer_next-in_default-clause-goes
returns-in_err-answer_next-in_default-clause-goes g c old before r q w ends so =
    let p = err_from_is_err_and c.from_residual.result c.from_residual.ensures.1 in
    let at = next_step c.loop-conn.conn c.next.result (λ t. elim t [ ]) c.loop-conn.invariant.written c.next.ensures c.in_default.not-Over c.in_default.not-Reads in
    let inv = c.loop-conn.invariant in
    fails_as c.args.site.now (λ h. g.H.Handler.handles h c.args.number) g.K.Clock.tells (λ h. g.H.Handler.lacks h c.args.number) old before r q w
    (g.W.Sink.contents c.answer_next.new.sink) c.answer_next.new.conn.over (unread c.answer_next.new.conn.read_buffer) c.answer_next.new.conn.requests
    c.answer_next.new.handler c.answer_next.new.clock c.from_residual.result p.0 c.in_err-answer_next-in_default.field-0.0 p.1 p.2
    (c.in_err-answer_next-in_default.ensures.goes old before r q w (λ is. ends (sym inv.eof ∙ is))
    (subst (λ (b : Bool). ServeStanding c.args.site.now (λ h. g.H.Handler.handles h c.args.number) g.K.Clock.tells old before r q w
    (g.W.Sink.contents c.loop-conn.sink) b (unread c.loop-conn.conn.read_buffer) c.loop-conn.conn.requests c.loop-conn.handler c.loop-conn.clock) at.0 (inv.goes old before r q w ends so)))
