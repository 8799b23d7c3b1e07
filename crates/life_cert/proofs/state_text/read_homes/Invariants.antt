-- The pools of the variables up to this one are read.
use Rattle.life_cert.proofs.HomesRead.{OwnsRead}
use Rattle.life_cert.proofs.state_text.read_homes.Given as goal

abbrev pub invariant-loop-q : goal.invariant-loop-q
invariant-loop-q l = OwnsRead l.fn.unread.bytes.now l.call l.req l.any l.own l.unread.bytes.now l.q
