-- The facts of cursors from this one on are left.
use Rattle.byte_text.specs.Writes.{writer_state}
use Rattle.life_cert.proofs.Writing.{LeavesEach}
use Rattle.life_state.specs.Seen.{seen}
use Rattle.life_cert.specs.StateText.{facts_text}
use Rattle.life_cert.proofs.print_state.put_facts.Given as goal

abbrev pub invariant-loop-c : goal.invariant-loop-c
invariant-loop-c g l =
    LeavesEach (writer_state g.W.Write.contents l.fn.out) (writer_state g.W.Write.contents l.out) 9 (facts_text (seen l.state)) l.c
