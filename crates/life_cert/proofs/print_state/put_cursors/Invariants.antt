-- The cursors from this one on are left.
use Rattle.byte_text.specs.Writes.{writer_state}
use Rattle.life_cert.proofs.Writing.{LeavesEach}
use Rattle.life_state.specs.Seen.{seen}
use Rattle.life_cert.specs.StateText.{cursor_text}
use Rattle.life_cert.proofs.print_state.put_cursors.Given as goal

abbrev pub invariant-loop-c : goal.invariant-loop-c
invariant-loop-c g l =
    LeavesEach (writer_state g.W.Write.contents l.fn.out) (writer_state g.W.Write.contents l.out) 9 (λ d. cursor_text d ((seen l.state).cursors d)) l.c
