use Rattle.byte_text.specs.Writes.{AppendsText, writer_state}
use Rattle.pool_tree.specs.Printed.{margin}
use Rattle.pool_tree.proofs.tree.print.put_margin.Given as goal

abbrev pub invariant-loop-level : goal.invariant-loop-level
invariant-loop-level g l = AppendsText (writer_state g.W.Write.contents l.initial.out) (writer_state g.W.Write.contents l.out) (margin l._level)
