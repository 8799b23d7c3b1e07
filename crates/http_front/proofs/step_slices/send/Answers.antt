use Rattle.std.proofs.Common.{false, refl, true}
use Rattle.http_front.specs.Texts.{text_of}
use Rattle.http_front.proofs.BeginLaws.{sends_so}
use Rattle.http_front.proofs.step_slices.send.Goals as goal

pub returns-then-closes-clause-ok : goal.returns-then-closes-clause-ok
returns-then-closes-clause-ok g c h asked =
    sends_so g.K.Clock.tells c.args.clock.now c.put_reply.new.clock c.args.seen.now c.span_in-method.result.now c.span_in-target.result.now c.args.asked
    c.args.outcome c.reply_of-reply.result _ (text_of c.put_reply.new.text) true
    c.reply_of-reply.ensures c.span_in-method.ensures c.span_in-target.ensures c.in_ok-put_reply.ensures.written c.if-closes.true refl h asked

pub returns-clause-ok : goal.returns-clause-ok
returns-clause-ok g c h asked =
    sends_so g.K.Clock.tells c.args.clock.now c.put_reply.new.clock c.args.seen.now c.span_in-method.result.now c.span_in-target.result.now c.args.asked
    c.args.outcome c.reply_of-reply.result _ (text_of c.put_reply.new.text) false
    c.reply_of-reply.ensures c.span_in-method.ensures c.span_in-target.ensures c.in_ok-put_reply.ensures.written c.if-closes.false refl h asked
