use Rattle.byte_text.proofs.ReaderLaws.{SoFar}
use Rattle.byte_text.proofs.line_reader.take_lines.Given as goal

abbrev pub invariant-loop-i : goal.invariant-loop-i
invariant-loop-i g l = record {
  so_far : SoFar g.R.TakesLines.takes l.fn.reader l.text l.reader l.number l.start l.i;
  ready : g.R.TakesLines.can_take l.reader;
}
