-- The lines from this one on are left.
use Rattle.std.proofs.Common.{true, length, slice_get}
use Rattle.life_check.specs.Seen.{seen_line}
use Rattle.life_cert.specs.CertText.{pc_line}
use Rattle.life_cert.specs.Drafts.{HaveSums}
use Rattle.byte_text.specs.Writes.{writer_state}
use Rattle.life_cert.proofs.Writing.{LeavesEach}
use Rattle.life_cert.proofs.print.put_new_lines.Given as goal

abbrev pub invariant-loop-pc : goal.invariant-loop-pc
invariant-loop-pc g l =
    LeavesEach (writer_state g.W.Write.contents l.fn.out) (writer_state g.W.Write.contents l.out) (length l.at) (pc_line true (λ k. seen_line (slice_get l.at k))) l.pc × HaveSums l.pc l.at l.sums
