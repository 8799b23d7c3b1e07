-- A turn reads one byte: it ends the line, or the line grows by it.
use Rattle.std.proofs.lemmas.Bool.{eq-eqb, ne_eqb}
use Rattle.byte_text.proofs.ReaderLaws.{so_far_line, so_far_on}
use Rattle.byte_text.proofs.line_reader.take_lines.Goals as goal
use Rattle.byte_text.proofs.line_reader.take_lines.Goals.{then-byte-eq10+in_ok-take_line, else-byte-eq10}

pub loop-i-preserved : goal.loop-i-preserved
loop-i-preserved g c =
    let inv = c.loop-i.invariant in
    let text = c.args.text.now in
    let i = c.loop-i.i in
    elim c.if-byte-eq10.branch [
      | then-byte-eq10+in_ok-take_line w ↦ record {
        so_far = rw (w.reader-is, w.number-is, w.start-is) (so_far_line g.R.TakesLines.takes c.args.reader.now c.loop-i.reader text c.loop-i.number c.loop-i.start i inv.so_far c.loop-i-test.true
            (eq-eqb _ _ w.if-byte-eq10.true) _ w.in_ok-take_line.ensures.takes);
        ready = rw w.reader-is w.in_ok-take_line.ensures.next;
      }
      | else-byte-eq10 w ↦ record {
        so_far = rw (w.reader-is, w.number-is, w.start-is)
            (so_far_on g.R.TakesLines.takes c.args.reader.now c.loop-i.reader text c.loop-i.number c.loop-i.start i inv.so_far c.loop-i-test.true (ne_eqb _ _ w.if-byte-eq10.false));
        ready = rw w.reader-is inv.ready;
      }
    ]
