use Rattle.std.proofs.Common.{drop}
use Rattle.module_lang.specs.Texts.{brigade_texts, joined}
use Rattle.byte_text.specs.Writes.{writer_state}
use Rattle.byte_text.proofs.WritingLaws.{Leaves}
use Rattle.module_lang.proofs.print.put_brigades.Given as goal

-- the lines of these brigades are left
abbrev pub invariant-loop-i : goal.invariant-loop-i
invariant-loop-i g l =
    Leaves (writer_state g.W.Write.contents l.fn.out) (writer_state g.W.Write.contents l.out) (joined (brigade_texts 0 l.brigades)) (joined (brigade_texts l.i (drop l.i l.brigades)))
