-- So many words are counted.
use Rattle.std.specs.Prelude.{codes}
use Rattle.life_cert.specs.StateFromText.{pool_past}
use Rattle.life_cert.proofs.Turns.{Counted}
use Rattle.life_cert.proofs.state_text.count_pools.Given as goal

abbrev pub invariant-loop-count : goal.invariant-loop-count
invariant-loop-count l = Counted (codes " p") pool_past 8 l.fn.unread.bytes.now l.unread.bytes.now l.count
