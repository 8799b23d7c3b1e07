-- The pools from this one on are left.
use Rattle.byte_text.specs.Writes.{writer_state}
use Rattle.life_cert.proofs.Writing.{LeavesEach}
use Rattle.life_state.specs.Seen.{seen}
use Rattle.life_cert.specs.StateText.{pool_text}
use Rattle.life_cert.proofs.print_state.put_pools.Given as goal

abbrev pub invariant-loop-q : goal.invariant-loop-q
invariant-loop-q g l =
    LeavesEach (writer_state g.W.Write.contents l.fn.out) (writer_state g.W.Write.contents l.out) (seen l.state).pool_count (λ q. pool_text q ((seen l.state).pools q)) l.q
