use Rattle.std.proofs.Common.{drop}
use Rattle.module_lang.specs.Texts.{joined, pool_texts}
use Rattle.byte_text.specs.Writes.{writer_state}
use Rattle.byte_text.proofs.WritingLaws.{Leaves}
use Rattle.module_lang.proofs.print.put_pools.Given as goal

-- the lines of these pools are left
abbrev pub invariant-loop-i : goal.invariant-loop-i
invariant-loop-i g l =
    Leaves (writer_state g.W.Write.contents l.fn.out) (writer_state g.W.Write.contents l.out) (joined (pool_texts 0 l.pools)) (joined (pool_texts l.i (drop l.i l.pools)))
