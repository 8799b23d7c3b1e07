use Rattle.module_lang.specs.Shown.{shown_code}
use Rattle.byte_text.specs.Writes.{writer_state}
use Rattle.byte_text.proofs.WritingLaws.{Leaves}
use Rattle.module_lang.proofs.print.put_code.Given as goal

-- the lines from this instruction on are left
abbrev pub invariant-loop-number : goal.invariant-loop-number
invariant-loop-number g l =
    Leaves (writer_state g.W.Write.contents l.fn.out) (writer_state g.W.Write.contents l.out) (shown_code l.module.texts l.module.code l.from l.to) (shown_code l.module.texts l.module.code l.number l.to)
