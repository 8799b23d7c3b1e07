-- What is read so far is told.
use Rattle.life_state.specs.Seen.{seen}
use Rattle.life_cert.specs.StateFromText.{own_past, told_brigade}
use Rattle.life_cert.proofs.Turns.{Folded}
use Rattle.life_cert.proofs.state_text.read_brigades.Given as goal

abbrev pub invariant-loop-b : goal.invariant-loop-b
invariant-loop-b l = Folded told_brigade (λ b. own_past) (seen l.fn.state).brigade_count l.words.bytes.now (seen l.fn.state) l.unread.bytes.now (seen l.state) l.b
