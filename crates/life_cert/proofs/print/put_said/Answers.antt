use Rattle.std.proofs.Common.{codes, decimal}
use Rattle.byte_text.proofs.WritingLaws.{wrote_then}
use Rattle.life_cert.proofs.Writing.{wrote_front}
use Rattle.life_cert.proofs.print.put_said.Goals as goal

pub returns-in_err-put_all-in-Some : goal.returns-in_err-put_all-in-Some
returns-in_err-put_all-in-Some g c =
    rw c.in-Some.is (wrote_front _ _ (codes "same ") (decimal c.in-Some.pc) c.from_residual.result c.from_residual.ensures.0 c.in_err-put_all-in-Some.ensures)

pub returns-in_ok-put_all-in-Some : goal.returns-in_ok-put_all-in-Some
returns-in_ok-put_all-in-Some g c =
    rw c.in-Some.is (wrote_then _ _ _ (codes "same ") (decimal c.in-Some.pc) c.put_all-in-Some.result c.in_ok-put_all-in-Some.ensures
    (rw (c.as_bytes.ensures.value, c.format.ensures.text) at c.put_all-in-Some.ensures))
