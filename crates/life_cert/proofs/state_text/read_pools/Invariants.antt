-- What is read so far is told.
use Rattle.life_state.specs.Seen.{seen}
use Rattle.life_cert.specs.StateFromText.{pool_past, told_pool}
use Rattle.life_cert.proofs.Turns.{Folded}
use Rattle.life_cert.proofs.state_text.read_pools.Given as goal

abbrev pub invariant-loop-q : goal.invariant-loop-q
invariant-loop-q l = Folded told_pool (λ q. pool_past) (seen l.fn.state).pool_count l.words.bytes.now (seen l.fn.state) l.unread.bytes.now (seen l.state) l.q
