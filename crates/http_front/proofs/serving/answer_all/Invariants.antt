use Rattle.std.proofs.Common.{◌≡◌, ℕ, List, [], Option, ◌+◌, ◌≤◌, length, true, false}
use Rattle.std.specs.Io.KnownBytes.{IsAtEnd}
use Rattle.http_message.specs.ReadBuffers.{unread}
use Rattle.http_front.specs.Serving.{ServedSoFar, ServeStanding}
use Rattle.http_front.specs.Talking.{pending, to_do}
use Rattle.http_front.specs.Turns.{WantsMore}
use Rattle.http_front.proofs.serving.answer_all.Given as goal

-- From what was at hand, serving came to what is at hand.
abbrev pub invariant-loop-conn : goal.invariant-loop-conn
invariant-loop-conn g l = record {
  opened : g.H.Handler.is_open l.handler l.fn.number;
  beside : (from : g.row.H.Denot) → g.H.Handler.beside from l.fn.number l.fn.handler → g.H.Handler.beside from l.fn.number l.handler;
  few : l.conn.over ≡ false → l.conn.requests + length (unread l.conn.read_buffer) ≤ l.fn.conn.requests + length (unread l.fn.conn.read_buffer);
  eof : l.conn.eof ≡ l.fn.conn.eof;
  written : pending l.conn ≡ [];
  needs_input : l.conn.needs_input ≡ true → (l.conn.eof ≡ false) × WantsMore (unread l.conn.read_buffer);
  sound : g.W.Sink.failed l.sink ≡ g.W.Sink.failed l.fn.sink;
  goes : (old : g.row.H.Denot) (before : g.row.K.Denot) (r q w : Option (List ℕ)) → (l.fn.conn.eof ≡ true → IsAtEnd q)
      → ServedSoFar l.site (λ h. g.H.Handler.handles h l.fn.number) g.K.Clock.tells old before r q w (g.W.Sink.contents l.fn.sink) (unread l.fn.conn.read_buffer) l.fn.conn.requests l.fn.handler l.fn.clock
      → ServeStanding l.site (λ h. g.H.Handler.handles h l.fn.number) g.K.Clock.tells old before r q w (g.W.Sink.contents l.sink) l.conn.over (unread l.conn.read_buffer) l.conn.requests l.handler l.clock;
}

abbrev pub decreases-loop-conn : goal.decreases-loop-conn
decreases-loop-conn g l = to_do l.conn
