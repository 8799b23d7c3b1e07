-- What is read so far is told.
use Rattle.life_state.specs.Seen.{seen}
use Rattle.life_cert.specs.StateFromText.{row_past, told_row}
use Rattle.life_cert.proofs.Turns.{Folded}
use Rattle.life_cert.proofs.state_text.read_facts.Given as goal

abbrev pub invariant-loop-c : goal.invariant-loop-c
invariant-loop-c l = Folded told_row row_past 9 l.words.bytes.now (seen l.fn.state) l.unread.bytes.now (seen l.state) l.c
