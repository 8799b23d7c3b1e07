-- What is read so far is told.
use Rattle.life_state.specs.Seen.{seen}
use Rattle.life_cert.specs.StateFromText.{cursor_past, told_cursor}
use Rattle.life_cert.proofs.Turns.{Folded}
use Rattle.life_cert.proofs.state_text.read_cursors.Given as goal

abbrev pub invariant-loop-c : goal.invariant-loop-c
invariant-loop-c l = Folded told_cursor cursor_past 9 l.fn.unread.bytes.now (seen l.fn.state) l.unread.bytes.now (seen l.state) l.c
