-- So many words are counted.
use Rattle.std.specs.Prelude.{codes}
use Rattle.life_cert.specs.StateFromText.{own_past}
use Rattle.life_cert.proofs.Turns.{Counted}
use Rattle.life_cert.proofs.state_text.count_brigades.Given as goal

abbrev pub invariant-loop-count : goal.invariant-loop-count
invariant-loop-count l = Counted (codes " b") own_past 8 l.fn.unread.bytes.now l.unread.bytes.now l.count
