use Rattle.std.proofs.Common.{◌≡◌, false, inr, refl, ◌∙◌, []}
use Rattle.std.proofs.lemmas.Result.{err_from_is_err_and}
use Rattle.http_front.proofs.Stepped.{found_lack, is_empty, none_wants, not_empty, ok_gives}
use Rattle.http_front.proofs.step_slices.begin_within.Goals as goal
use Rattle.http_front.proofs.step_slices.begin_within.Goals.{else-is_empty-via-then-is_empty+else-eof, else-is_empty-via-else-is_empty}

pub returns-then-is_empty-2-clause-ok : goal.returns-then-is_empty-2-clause-ok
returns-then-is_empty-2-clause-ok g c =
    let none : c.args.seen.now ≡ [] = is_empty c.args.seen.now c.if-is_empty-2.ensures in
    let follows : c.args.eof ≡ false = elim c.else-is_empty.branch [
      | else-is_empty-via-then-is_empty+else-eof w ↦ w.if-eof.false
      | else-is_empty-via-else-is_empty w ↦ absurd (not_empty c.args.seen.now w.if-is_empty.ensures none)
    ] in
    let e = c.clear.ensures in
    (follows, none_wants c.args.seen.now none, record { same = refl; still = refl; none = rw (e.head, e.body, e.tail) refl })

pub returns-in-Head-clause-ok : goal.returns-in-Head-clause-ok
returns-in-Head-clause-ok g c = ok_gives _ _ c.begin_head.result (λ x says. says c.args.eof) c.begin_head.ensures.ok

pub returns-in-Head-clause-err : goal.returns-in-Head-clause-err
returns-in-Head-clause-err g c =
    found_lack c.args.site.now (λ old. g.H.Handler.lacks old c.args.number) _ _ c.args.seen.now c.look_at.new.spans c.args.eof c.in-Head.head c.begin_head.result
    (c.look_at.ensures.room ∙ c.requires.room) c.in-Head.ensures.looks.1 c.begin_head.ensures.err

pub returns-in-More-clause-ok : goal.returns-in-More-clause-ok
returns-in-More-clause-ok g c =
    let looks = rw (c.look_at.ensures.room ∙ c.requires.room) at c.in-More.ensures.looks in
    let e = c.clear.ensures in
    (looks.0, record { few = looks.1; hopeful = inr looks.2; headless = looks.3 }, record { same = refl; still = refl; none = rw (e.head, e.body, e.tail) refl })

pub returns-in_ok-put_reply-in-Headless-clause-ok : goal.returns-in_ok-put_reply-in-Headless-clause-ok
returns-in_ok-put_reply-in-Headless-clause-ok g c =
    let w = c.in_ok-put_reply-in-Headless.ensures.written in
    let never = rw (c.look_at.ensures.room ∙ c.requires.room) at c.in-Headless.ensures.looks in
    (not_empty _ c.if-is_empty-2.ensures, never, refl, record { reply = _; date = w.date; bad = c.bad_reply.ensures; then = w.then; dated = w.dated; noted = w.noted; written = w.written })

pub returns-in_err-put_reply-in-Headless : goal.returns-in_err-put_reply-in-Headless
returns-in_err-put_reply-in-Headless g c =
    let p = err_from_is_err_and c.from_residual.result c.from_residual.ensures.1 in
    let never = rw (c.look_at.ensures.room ∙ c.requires.room) at c.in-Headless.ensures.looks in
    rw (p.1, p.2) (record {
      «open» = c.requires.open;
      beside = λ from so. so;
      clock = c.put_reply.ensures.clock;
      ok = tt;
      err = inr (not_empty c.args.seen.now c.if-is_empty-2.ensures, never);
      few = g.met.P.Pace.steps_none _ _ _;
    })
