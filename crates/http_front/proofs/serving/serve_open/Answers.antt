use Rattle.std.proofs.Common.{◌≡◌, ℕ, Bool, true, false, length, Ok, Err, ap, refl, ◌∙◌, sym, subst, arith, length-append}
use Rattle.byte_streams.specs.Counted.{source_of}
use Rattle.std.proofs.lemmas.Result.{err_from_is_err_and}
use Rattle.http_message.specs.ReadBuffers.{unread}
use Rattle.http_front.specs.Serving.{EndsWell, ServeStanding}
use Rattle.http_front.proofs.ServingLaws.{far_start}
use Rattle.http_front.proofs.Stepped.{none_wants}
use Rattle.http_front.specs.declared.fault.Served.{Served}
use Rattle.http_front.proofs.BlameLaws.{sink_apart, sink_err, sink_since, source_apart, source_err, source_since}
use Rattle.http_front.proofs.ServedLaws.{far_adds, far_loses}
use Rattle.http_front.proofs.serving.serve_open.Goals as goal

pub loop-conn-init : goal.loop-conn-init
loop-conn-init g c = record {
  opened = c.requires;
  beside = λ from so. so;
  few = let long = ap length c.new-conn.ensures.unread in let none = c.new-conn.ensures.requests in omega (arith, long, none);
  range = let same = c.count_left-reads.ensures.left in let few = c.count_left-reads.ensures.few in omega (arith, same, few);
  room = refl;
  going = c.new-conn.ensures.over;
  written = c.new-conn.ensures.pending;
  more = c.new-conn.ensures.eof;
  far = far_start _ _ _ _ _ _ _ _ _ c.new-conn.ensures.unread c.new-conn.ensures.requests;
  needs_input = none_wants _ c.new-conn.ensures.unread;
  read_well = refl;
  wrote_well = refl;
}

pub returns-in_err-take_counted : goal.returns-in_err-take_counted
returns-in_err-take_counted g c =
    let p = err_from_is_err_and c.from_residual.result c.from_residual.ensures.1 in
    let e = c.in_err-take_counted.field-0.0 in
    let says = c.in_err-take_counted.ensures in
    let inv = c.loop-conn.invariant in
    let r = g.R.Source.remaining in
    rw (p.1, p.2) (record {
      «open» = inv.opened;
      beside = inv.beside;
      ok = tt;
      err =
          far_loses c.args.site.now (λ h. g.H.Handler.handles h c.args.number) g.K.Clock.tells (λ h. g.H.Handler.lacks h c.args.number) c.args.handler.now c.args.clock.now
          (r (source_of c.args.reader.now)) (r (source_of c.loop-conn.reader)) (r (source_of c.take_counted.new.reader)) (g.W.Sink.contents c.args.sink.now)
          (g.W.Sink.contents c.loop-conn.sink) _ _ _ _ e inv.far inv.needs_input says.err;
      source = source_err (Unit {0}) Served e _ _ _ (source_since {T = Unit {0}} (Err e) _ _ _ _ inv.read_well says.blames);
      sink = sink_apart Served e _ _ (λ is. says.unwritten (ap Err is)) inv.wrote_well;
    })

pub returns-in_err-answer_all : goal.returns-in_err-answer_all
returns-in_err-answer_all g c =
    let p = err_from_is_err_and c.from_residual-in_err-answer_all.result c.from_residual-in_err-answer_all.ensures.1 in
    let e = c.in_err-answer_all.field-0.0 in
    let adds = c.in_ok-take_counted.ensures.ok in
    let says = c.in_err-answer_all.ensures in
    let inv = c.loop-conn.invariant in
    let r = g.R.Source.remaining in
    rw (p.1, p.2) (record {
      «open» = c.answer_all.ensures.open;
      beside = λ from so. c.answer_all.ensures.beside from (inv.beside from so);
      ok = tt;
      err = says.goes c.args.handler.now c.args.clock.now (r (source_of c.args.reader.now)) (r (source_of c.take_counted.new.reader)) (g.W.Sink.contents c.args.sink.now) adds.end
          (far_adds _ _ _ (λ h. g.H.Handler.lacks h c.args.number) _ _ _ _ _ _ _ _ _ _ _ _ _ _ _ c.take_counted.ensures.requests inv.far adds);
      source = source_apart Served e _ _ _ (λ is. says.unread.0 (ap Err is)) (λ is. says.unread.1 (ap Err is)) (c.in_ok-take_counted.ensures.blames ∙ inv.read_well);
      sink = sink_err Bool Served e _ _ (sink_since {T = Bool} (Err e) _ _ _ inv.wrote_well says.blames);
    })

pub returns-then-branch-clause-ok : goal.returns-then-branch-clause-ok
returns-then-branch-clause-ok g c =
    let adds = c.in_ok-take_counted.ensures.ok in
    let r = g.R.Source.remaining in
    let w = g.W.Sink.contents in
    let e = c.in_ok-answer_all.ensures in
    let over : c.answer_all.new.conn.over ≡ true = e.over ∙ c.if-branch.true in
    subst (λ (n : ℕ). EndsWell c.args.site.now (λ h. g.H.Handler.handles h c.args.number) g.K.Clock.tells c.args.handler.now c.args.clock.now
    (r (source_of c.args.reader.now)) (w c.args.sink.now) (w c.answer_all.new.sink) n c.answer_all.new.handler c.answer_all.new.clock) (sym c.requests.ensures)
    (subst (λ (b : Bool). ServeStanding c.args.site.now (λ h. g.H.Handler.handles h c.args.number) g.K.Clock.tells c.args.handler.now c.args.clock.now
    (r (source_of c.args.reader.now)) (r (source_of c.take_counted.new.reader)) (w c.args.sink.now) (w c.answer_all.new.sink) b
    (unread c.answer_all.new.conn.read_buffer) c.answer_all.new.conn.requests c.answer_all.new.handler c.answer_all.new.clock) over
    (e.goes c.args.handler.now c.args.clock.now (r (source_of c.args.reader.now)) (r (source_of c.take_counted.new.reader)) (w c.args.sink.now) adds.end
    (far_adds _ _ _ (λ h. g.H.Handler.lacks h c.args.number) _ _ _ _ _ _ _ _ _ _ _ _ _ _ _ c.take_counted.ensures.requests c.loop-conn.invariant.far adds)))

pub loop-conn-preserved : goal.loop-conn-preserved
loop-conn-preserved g c =
    let adds = c.in_ok-take_counted.ensures.ok in
    let r = g.R.Source.remaining in
    let w = g.W.Sink.contents in
    let e = c.in_ok-answer_all.ensures in
    let inv = c.loop-conn.invariant in
    let going : c.answer_all.new.conn.over ≡ false = e.over ∙ c.if-branch.false in
    let needs_input = e.needs_input (ap Ok c.if-branch.false) in
    record {
      opened = c.answer_all.ensures.open;
      beside = λ from so. c.answer_all.ensures.beside from (inv.beside from so);
      few = omega (
        arith,
        e.few (ap Ok c.if-branch.false),
        inv.few,
        adds.few,
        ap length adds.added ∙ length-append (unread c.loop-conn.conn.read_buffer) adds.bytes,
        c.in_ok-take_counted.ensures.counted,
        c.take_counted.ensures.requests,
      );
      range = inv.range;
      room = c.take_counted.ensures.room;
      going = going;
      written = c.answer_all.ensures.written;
      more = needs_input.0;
      far =
          subst (λ (b : Bool). ServeStanding c.args.site.now (λ h. g.H.Handler.handles h c.args.number) g.K.Clock.tells c.args.handler.now c.args.clock.now
          (r (source_of c.args.reader.now)) (r (source_of c.take_counted.new.reader)) (w c.args.sink.now) (w c.answer_all.new.sink) b
          (unread c.answer_all.new.conn.read_buffer) c.answer_all.new.conn.requests c.answer_all.new.handler c.answer_all.new.clock) going
          (e.goes c.args.handler.now c.args.clock.now (r (source_of c.args.reader.now)) (r (source_of c.take_counted.new.reader)) (w c.args.sink.now) adds.end
          (far_adds _ _ _ (λ h. g.H.Handler.lacks h c.args.number) _ _ _ _ _ _ _ _ _ _ _ _ _ _ _ c.take_counted.ensures.requests inv.far adds));
      needs_input = needs_input.1;
      read_well = c.in_ok-take_counted.ensures.blames ∙ inv.read_well;
      wrote_well = e.blames ∙ inv.wrote_well;
    }
