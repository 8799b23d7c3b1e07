-- The brigades from this one on are left.
use Rattle.byte_text.specs.Writes.{writer_state}
use Rattle.life_cert.proofs.Writing.{LeavesEach}
use Rattle.life_state.specs.Seen.{seen}
use Rattle.life_cert.specs.StateText.{brigade_text}
use Rattle.life_cert.proofs.print_state.put_brigades.Given as goal

abbrev pub invariant-loop-b : goal.invariant-loop-b
invariant-loop-b g l =
    LeavesEach (writer_state g.W.Write.contents l.fn.out) (writer_state g.W.Write.contents l.out) (seen l.state).brigade_count (λ b. brigade_text b ((seen l.state).brigades b)) l.b
