use Rattle.std.proofs.Common.{◌≡◌, ◌+◌, ◌*◌, ◌≤◌, ◌<◌, length, [], false}
use Rattle.byte_streams.specs.Counted.{reads_left, source_of}
use Rattle.http_message.specs.ReadBuffers.{unread}
use Rattle.http_front.specs.Serving.{ServedSoFar}
use Rattle.http_front.specs.Talking.{pending}
use Rattle.http_front.specs.Turns.{WantsMore}
use Rattle.http_front.proofs.serving.serve_open.Given as goal

-- how far serving is, no more requests than bytes that were read, no whole request that was read and is not answered, and no failure
abbrev pub invariant-loop-conn : goal.invariant-loop-conn
invariant-loop-conn g l = record {
  opened : g.H.Handler.is_open l.handler l.number;
  beside : (from : g.row.H.Denot) → g.H.Handler.beside from l.number l.fn.handler → g.H.Handler.beside from l.number l.handler;
  few : l.conn.requests + length (unread l.conn.read_buffer) + 8192 * reads_left l.reader ≤ 8192 * reads_left l.fn.reader;
  range : reads_left l.fn.reader < 4294967296;
  room : length l.buffer ≡ 8192;
  going : l.conn.over ≡ false;
  written : pending l.conn ≡ [];
  more : l.conn.eof ≡ false;
  far : ServedSoFar l.site (λ h. g.H.Handler.handles h l.number) g.K.Clock.tells l.fn.handler l.fn.clock (g.R.Source.remaining (source_of l.fn.reader))
      (g.R.Source.remaining (source_of l.reader)) (g.W.Sink.contents l.fn.sink) (g.W.Sink.contents l.sink) (unread l.conn.read_buffer) l.conn.requests l.handler l.clock;
  needs_input : WantsMore (unread l.conn.read_buffer);
  read_well : g.R.Source.failed (source_of l.reader) ≡ g.R.Source.failed (source_of l.fn.reader);
  wrote_well : g.W.Sink.failed l.sink ≡ g.W.Sink.failed l.fn.sink;
}

abbrev pub decreases-loop-conn : goal.decreases-loop-conn
decreases-loop-conn g l = reads_left l.reader
