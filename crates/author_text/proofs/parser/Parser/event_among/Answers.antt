use Rattle.std.proofs.Common.{sym, ap, ◌∙◌}
use Rattle.author_text.specs.PrintedSource.{event_text}
use Rattle.author_text.specs.Reading.{unread_of}
use Rattle.author_text.specs.UnreadTokens.{next_token, is_at}
use Rattle.author_text.proofs.FindLaws.{find_found, find_passed, find_past}
use Rattle.author_text.proofs.parser.Parser.event_among.Goals as goal

pub returns-then-at : goal.returns-then-at
returns-then-at c = λ w.
    find_found (λ e. is_at (next_token (unread_of c.args.self.now)) (event_text e)) c.args.events.now c.loop-event.event-index _ _ c.loop-event-test.true
    (ap (is_at (next_token (unread_of c.args.self.now))) (sym c.event_text.ensures) ∙ sym (c.at.ensures w) ∙ c.if-at.true) (c.loop-event.invariant w)

pub loop-event-preserved : goal.loop-event-preserved
loop-event-preserved c = λ w.
    find_passed (λ e. is_at (next_token (unread_of c.args.self.now)) (event_text e)) c.args.events.now c.loop-event.event-index _ _ c.loop-event-test.true
    (ap (is_at (next_token (unread_of c.args.self.now))) (sym c.event_text.ensures) ∙ sym (c.at.ensures w) ∙ c.if-at.false) (c.loop-event.invariant w)

pub returns : goal.returns
returns c = λ w.
    find_past (λ e. is_at (next_token (unread_of c.args.self.now)) (event_text e)) c.args.events.now c.loop-event.event-index _ c.loop-event-test.false (c.loop-event.invariant w)
