use Rattle.std.proofs.Common.{◌≡◌, ◌+◌, ◌*◌, length}
use Rattle.byte_streams.specs.Counted.{reads_left, source_of}
use Rattle.script_play.proofs.GoingLaws.{Going}
use Rattle.script_play.proofs.playing.play_all.Given as goal

-- how far the play is, how many bytes a read asks for, how often the reader was read, and that neither stream failed
abbrev pub invariant-loop : goal.invariant-loop
invariant-loop g l = record {
  going : Going (g.S.Source.remaining (source_of l.fn.reader)) (g.S.Source.remaining (source_of l.reader)) (g.W.Sink.contents l.fn.writer) (g.W.Sink.contents l.writer) l.player l.held.items
      (8192 * l.counter);
  wide : length l.buffer ≡ 8192;
  counted : reads_left l.reader + l.counter ≡ reads_left l.fn.reader;
  reader : g.S.Source.failed (source_of l.reader) ≡ g.S.Source.failed (source_of l.fn.reader);
  writer : g.W.Sink.failed l.writer ≡ g.W.Sink.failed l.fn.writer;
}
