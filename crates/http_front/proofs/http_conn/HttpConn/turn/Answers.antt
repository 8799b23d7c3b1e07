use Rattle.std.proofs.Common.{[], take, Ok, refl, ◌∙◌, sym, subst}
use Rattle.std.proofs.lemmas.Result.{IfErr-weaker}
use Rattle.std.proofs.KnownBytes.{Appends-nil, Consumes-nil}
use Rattle.http_message.specs.ReadBuffers.{unread}
use Rattle.http_front.specs.UnderWays.{most_steps}
use Rattle.http_front.specs.Talking.{pending}
use Rattle.http_front.specs.declared.http_conn.Next.TheVariants as next
use Rattle.http_front.specs.declared.http_conn.Turned.TheVariants as turned
use Rattle.http_front.proofs.TurnLaws.{count_kept, counts_made, on_err, on_err_as, sink_lack, sink_read, slice_fails, slice_lack, slice_next, source_lack, source_wrote, wants_kept, wants_made}
use Rattle.http_front.proofs.SharingLaws.{own_over, own_read, own_step, own_wrote, quiet, stands_later}
use Rattle.http_front.proofs.http_conn.HttpConn.turn.Goals as goal

pub returns-in-Writes-clause-own : goal.returns-in-Writes-clause-own
returns-in-Writes-clause-own g c =
    let w = c.put_out.ensures.wrote in (
      [],
      take w.0 (pending c.args.self.now),
      Consumes-nil (g.R.Source.remaining c.args.reader.now),
      w.1,
      own_wrote c.args.site.now (λ old. g.H.Handler.among old c.args.number) (λ old. g.H.Handler.rests old c.args.number) g.K.Clock.tells
          (λ old new. g.H.Handler.apart old c.args.number new) (λ h. g.met.H.Handler.apart_self h c.args.number)
          (λ mid now new method file o. g.met.H.Handler.among_later mid now new c.args.number method file o) c.put_out.result c.args.self.now c.put_out.new.self
          c.args.handler.now c.put_out.new.handler c.args.clock.now w.0 c.put_out.ensures.still w.2 c.put_out.ensures.read_buffer c.put_out.ensures.over c.put_out.ensures.hand,
    )

pub returns-in-Over-clause-own : goal.returns-in-Over-clause-own
returns-in-Over-clause-own g c =
    quiet (g.R.Source.remaining c.args.reader.now) (g.W.Sink.contents c.args.sink.now) _
    (own_over c.args.site.now (λ old. g.H.Handler.among old c.args.number) (λ old. g.H.Handler.rests old c.args.number) g.K.Clock.tells
    (λ old new. g.H.Handler.apart old c.args.number new) (λ h. g.met.H.Handler.apart_self h c.args.number)
    (λ mid now new method file o. g.met.H.Handler.among_later mid now new c.args.number method file o) (Ok turned.Over) c.args.self.now c.args.handler.now c.args.clock.now)

pub returns-in-Reads-clause-own : goal.returns-in-Reads-clause-own
returns-in-Reads-clause-own g c =
    let t = c.take_in.ensures.took in (
      t.0,
      [],
      t.1,
      Appends-nil (g.W.Sink.contents c.args.sink.now),
      own_read c.args.site.now (λ old. g.H.Handler.among old c.args.number) (λ old. g.H.Handler.rests old c.args.number) g.K.Clock.tells
          (λ old new. g.H.Handler.apart old c.args.number new) (λ h. g.met.H.Handler.apart_self h c.args.number)
          (λ mid now new method file o. g.met.H.Handler.among_later mid now new c.args.number method file o) c.take_in.result c.args.self.now c.take_in.new.self
          c.args.handler.now c.args.clock.now t.0 t.2 c.take_in.ensures.text c.take_in.ensures.over c.in-Reads.ensures.1 c.take_in.ensures.hand c.in-Reads.ensures.3,
    )

pub returns-in_default-clause-own : goal.returns-in_default-clause-own
returns-in_default-clause-own g c =
    let at = slice_next c.args.self.now c.next.result c.next.ensures c.in_default.not-Writes c.in_default.not-Over in
    quiet (g.R.Source.remaining c.args.reader.now) (g.W.Sink.contents c.args.sink.now) _
    (own_step c.args.site.now (λ old. g.H.Handler.among old c.args.number) (λ old. g.H.Handler.rests old c.args.number) g.K.Clock.tells
    (λ old new. g.H.Handler.apart old c.args.number new) (λ h. g.met.H.Handler.apart_self h c.args.number)
    (λ mid now new method file o. g.met.H.Handler.among_later mid now new c.args.number method file o) c.step.result c.args.self.now c.step.new.self
    c.args.handler.now c.step.new.handler c.args.clock.now c.step.new.clock at.0 at.1 c.step.ensures.did)

pub returns-in_default-clause-others : goal.returns-in_default-clause-others
returns-in_default-clause-others g c k apart start first came went other s =
    let own = c.step.ensures.beside c.args.handler.now (g.met.H.Handler.beside_self c.args.handler.now c.args.number) in
    let gap = g.met.H.Handler.apart_on c.args.handler.now c.args.handler.now c.step.new.handler c.args.number k apart (g.met.H.Handler.apart_self c.args.handler.now k) own in
    stands_later c.args.site.now (λ old. g.H.Handler.among old k) (λ old. g.H.Handler.rests old k) g.K.Clock.tells
    (λ old new. g.H.Handler.apart old k new) start first came went other c.args.handler.now c.step.new.handler c.args.clock.now c.step.new.clock
    (λ from before. g.met.H.Handler.apart_on from c.args.handler.now c.step.new.handler c.args.number k apart before own)
    (λ task o z rest. g.met.H.Handler.rests_later c.args.handler.now c.step.new.handler z k task o gap rest) c.step.ensures.clock s

pub returns-in-Writes-clause-fails : goal.returns-in-Writes-clause-fails
returns-in-Writes-clause-fails g c = IfErr-weaker c.put_out.result _ _ (λ e how. (next.Writes, c.in-Writes.ensures, how)) c.put_out.ensures.kinds

pub returns-in-Reads-clause-fails : goal.returns-in-Reads-clause-fails
returns-in-Reads-clause-fails g c = IfErr-weaker c.take_in.result _ _ (λ e how. (next.Reads, c.in-Reads.ensures, how)) c.take_in.ensures.lost

pub returns-in_default-clause-fails : goal.returns-in_default-clause-fails
returns-in_default-clause-fails g c =
    let no = c.in_default in
    IfErr-weaker c.step.result _ _ (λ e how. (
      c.next.result,
      c.next.ensures,
      slice_fails c.args.site.now (λ old. g.H.Handler.lacks old c.args.number)
          (λ old. g.H.Handler.lacks_rest old c.args.number) _ _ _ c.args.handler.now c.step.new.handler c.args.self.now c.next.result e no.not-Writes no.not-Over no.not-Reads how,
    )) c.step.ensures.lacks

pub returns-in-Writes-clause-none : goal.returns-in-Writes-clause-none
returns-in-Writes-clause-none g c = on_err c.put_out.result _ (λ none. absurd (c.in-Writes.ensures none))

pub returns-in-Reads-clause-none : goal.returns-in-Reads-clause-none
returns-in-Reads-clause-none g c = on_err c.take_in.result _ (λ none. c.take_in.ensures.text ∙ none)

pub returns-in_default-clause-none : goal.returns-in_default-clause-none
returns-in_default-clause-none g c = on_err_as c.step.result _ _ (λ left none. left) c.step.ensures.none

pub returns-in-Writes-clause-source : goal.returns-in-Writes-clause-source
returns-in-Writes-clause-source g c = source_wrote _ _ refl _ c.put_out.result c.put_out.ensures.kinds

pub returns-in-Reads-clause-sink : goal.returns-in-Reads-clause-sink
returns-in-Reads-clause-sink g c = sink_read _ _ refl c.take_in.result c.take_in.ensures.unwritten

pub returns-in_default-clause-source : goal.returns-in_default-clause-source
returns-in_default-clause-source g c =
    source_lack _ _ refl _ c.step.result (IfErr-weaker c.step.result _ _
    (λ e how. slice_lack c.args.site.now (λ old. g.H.Handler.lacks old c.args.number) (λ old. g.H.Handler.lacks_rest old c.args.number) c.args.handler.now
    c.step.new.handler (unread c.args.self.now.read_buffer) c.args.self.now.eof c.args.self.now.hand e how) c.step.ensures.lacks)

pub returns-in_default-clause-sink : goal.returns-in_default-clause-sink
returns-in_default-clause-sink g c =
    sink_lack _ _ refl c.step.result (IfErr-weaker c.step.result _ _
    (λ e how. slice_lack c.args.site.now (λ old. g.H.Handler.lacks old c.args.number) (λ old. g.H.Handler.lacks_rest old c.args.number) c.args.handler.now
    c.step.new.handler (unread c.args.self.now.read_buffer) c.args.self.now.eof c.args.self.now.hand e how) c.step.ensures.lacks)

pub returns-in-Writes-clause-few : goal.returns-in-Writes-clause-few
returns-in-Writes-clause-few g c =
    subst (λ h. g.H.Handler.steps c.args.handler.now c.args.number (most_steps c.args.self.now.hand) h) (sym c.put_out.ensures.still)
    (g.met.H.Handler.steps_none c.args.handler.now c.args.number (most_steps c.args.self.now.hand))

pub returns-in-Over-clause-few : goal.returns-in-Over-clause-few
returns-in-Over-clause-few g c = g.met.H.Handler.steps_none c.args.handler.now c.args.number _

pub returns-in-Reads-clause-few : goal.returns-in-Reads-clause-few
returns-in-Reads-clause-few g c = g.met.H.Handler.steps_none c.args.handler.now c.args.number _

pub returns-in-Writes-clause-needs_input : goal.returns-in-Writes-clause-needs_input
returns-in-Writes-clause-needs_input g c = wants_kept c.put_out.result c.args.self.now c.put_out.new.self (λ is. sym c.put_out.ensures.needs_input ∙ is)

pub returns-in-Writes-clause-counted : goal.returns-in-Writes-clause-counted
returns-in-Writes-clause-counted g c = count_kept c.put_out.result c.args.self.now c.put_out.new.self c.put_out.ensures.requests

pub returns-in-Reads-clause-needs_input : goal.returns-in-Reads-clause-needs_input
returns-in-Reads-clause-needs_input g c = wants_kept c.take_in.result c.args.self.now c.take_in.new.self (c.take_in.ensures.needs_input)

pub returns-in-Reads-clause-counted : goal.returns-in-Reads-clause-counted
returns-in-Reads-clause-counted g c = count_kept c.take_in.result c.args.self.now c.take_in.new.self c.take_in.ensures.requests

pub returns-in_default-clause-needs_input : goal.returns-in_default-clause-needs_input
returns-in_default-clause-needs_input g c =
    wants_made c.args.self.now c.step.new.self c.args.site.now (λ old. g.H.Handler.among old c.args.number)
    (λ old. g.H.Handler.rests old c.args.number) g.K.Clock.tells c.args.handler.now c.step.new.handler c.args.clock.now c.step.new.clock c.args.self.now.eof
    (pending c.step.new.self) c.step.result c.step.ensures.did

pub returns-in_default-clause-counted : goal.returns-in_default-clause-counted
returns-in_default-clause-counted g c =
    counts_made c.args.self.now c.step.new.self c.args.site.now (λ old. g.H.Handler.among old c.args.number)
    (λ old. g.H.Handler.rests old c.args.number) g.K.Clock.tells c.args.handler.now c.step.new.handler c.args.clock.now c.step.new.clock c.args.self.now.eof
    (pending c.step.new.self) c.step.result c.step.ensures.did
