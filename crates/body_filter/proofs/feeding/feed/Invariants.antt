use Rattle.std.proofs.Common.{◌≡◌, ◌+◌, length}
use Rattle.byte_streams.specs.Counted.{reads_left, source_of}
use Rattle.filter_chain.specs.Led.{IsAlive, Refines}
use Rattle.filter_chain.specs.Safe.{IsSafe}
use Rattle.body_filter.specs.Feeding.{FedSoFar}
use Rattle.body_filter.proofs.feeding.feed.Given as goal

-- how far the body is brought, that the chain is the same, how many bytes a read asks for, how often the reader was read, and that neither stream failed
abbrev pub invariant-loop : goal.invariant-loop
invariant-loop g l = record {
  alive : IsAlive g.F.Files.device l.host;
  fed : Refines g.F.Files.device l.fn.host l.host (λ b c s t. FedSoFar b c l.number (g.W.Sink.contents l.fn.writer) (g.W.Sink.contents l.writer)
      (g.S.Source.remaining (source_of l.fn.reader)) (g.S.Source.remaining (source_of l.reader)) s t);
  safe : IsSafe l.fn.host → IsSafe l.host;
  wide : length l.buffer ≡ 8000;
  counted : reads_left l.reader + l.counter ≡ reads_left l.fn.reader;
  reader : g.S.Source.failed (source_of l.reader) ≡ g.S.Source.failed (source_of l.fn.reader);
  writer : g.W.Sink.failed l.writer ≡ g.W.Sink.failed l.fn.writer;
}
