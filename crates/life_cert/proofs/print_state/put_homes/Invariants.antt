-- The homes from this one on are left.
use Rattle.life_state.specs.Seen.{seen_homes}
use Rattle.byte_text.specs.Writes.{writer_state}
use Rattle.life_cert.proofs.Homes.{LeavesHomes}
use Rattle.life_cert.proofs.print_state.put_homes.Given as goal

abbrev pub invariant-loop-home : goal.invariant-loop-home
invariant-loop-home g l =
    LeavesHomes (writer_state g.W.Write.contents l.fn.out) (writer_state g.W.Write.contents l.out) l.any (seen_homes l.homes) l.home-index
