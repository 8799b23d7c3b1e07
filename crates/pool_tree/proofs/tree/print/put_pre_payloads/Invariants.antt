use Rattle.std.proofs.Common.{take}
use Rattle.byte_text.specs.Writes.{AppendsText, writer_state}
use Rattle.pool_tree.specs.Printed.{marked_all}
use Rattle.pool_tree.proofs.tree.print.put_pre_payloads.Given as goal

abbrev pub invariant-loop-payload : goal.invariant-loop-payload
invariant-loop-payload g l = AppendsText (writer_state g.W.Write.contents l.initial.out) (writer_state g.W.Write.contents l.out) (marked_all g.T.PoolText.shown (take l.payload-index l.payloads))
