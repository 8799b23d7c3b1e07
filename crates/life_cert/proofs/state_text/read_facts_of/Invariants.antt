-- What is read so far is told.
use Rattle.life_state.specs.Seen.{seen}
use Rattle.life_cert.specs.StateFromText.{fact_past, told_fact}
use Rattle.life_cert.proofs.Turns.{Folded}
use Rattle.life_cert.proofs.state_text.read_facts_of.Given as goal

abbrev pub invariant-loop-d : goal.invariant-loop-d
invariant-loop-d l = Folded (told_fact l.c) (fact_past l.c) 9 l.fn.unread.bytes.now (seen l.fn.state) l.unread.bytes.now (seen l.state) l.d
