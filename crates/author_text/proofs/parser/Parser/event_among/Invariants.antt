use Rattle.std.proofs.Common.{◌≡◌, IsTrue, drop}
use Rattle.author_text.specs.Reading.{unread_of}
use Rattle.author_text.specs.ReadSource.{event_among}
use Rattle.author_text.specs.UnreadTokens.{next_token}
use Rattle.author_text.proofs.parser.Parser.event_among.Given as goal

abbrev pub invariant-loop-event : goal.invariant-loop-event
invariant-loop-event l =
    IsTrue l.self.faults.is_whole → event_among (next_token (unread_of l.self)) (drop l.event-index l.events) ≡ event_among (next_token (unread_of l.self)) l.events
