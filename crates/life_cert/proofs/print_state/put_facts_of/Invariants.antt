-- The facts with cursors from this one on are left.
use Rattle.byte_text.specs.Writes.{writer_state}
use Rattle.life_cert.proofs.Writing.{LeavesEach}
use Rattle.life_state.specs.Seen.{seen}
use Rattle.life_cert.specs.StateText.{fact_text}
use Rattle.life_cert.proofs.print_state.put_facts_of.Given as goal

abbrev pub invariant-loop-d : goal.invariant-loop-d
invariant-loop-d g l =
    LeavesEach (writer_state g.W.Write.contents l.fn.out) (writer_state g.W.Write.contents l.out) 9 (fact_text (seen l.state) l.c) l.d
