use Rattle.std.proofs.Common.{◌++◌, codes, decimal}
use Rattle.byte_text.proofs.WritingLaws.{wrote_then}
use Rattle.life_cert.proofs.Writing.{wrote_front}
use Rattle.life_state.specs.Seen.{seen}
use Rattle.life_cert.specs.CertText.{said_by}
use Rattle.life_cert.proofs.print.put_state_line.Goals as goal

pub returns-in_err-put_all : goal.returns-in_err-put_all
returns-in_err-put_all g c =
    wrote_front _ _ (decimal c.args.pc) (codes " " ++ (said_by c.args.earlier (seen c.args.state.now) ++ (codes "\n"))) c.from_residual.result c.from_residual.ensures.0 (rw (c.as_bytes.ensures.value, c.format.ensures.text) at c.in_err-put_all.ensures)

pub returns-in_err-put_all-2 : goal.returns-in_err-put_all-2
returns-in_err-put_all-2 g c =
    wrote_then _ _ _ (decimal c.args.pc) (codes " " ++ (said_by c.args.earlier (seen c.args.state.now) ++ (codes "\n"))) c.from_residual-in_err-put_all-2.result (rw (c.as_bytes.ensures.value, c.format.ensures.text) at c.in_ok-put_all.ensures) (wrote_front _ _ (codes " ") (said_by c.args.earlier (seen c.args.state.now) ++ (codes "\n")) c.from_residual-in_err-put_all-2.result c.from_residual-in_err-put_all-2.ensures.0 c.in_err-put_all-2.ensures)

pub returns-in_err-put_said : goal.returns-in_err-put_said
returns-in_err-put_said g c =
    wrote_then _ _ _ (decimal c.args.pc) (codes " " ++ (said_by c.args.earlier (seen c.args.state.now) ++ (codes "\n"))) c.from_residual-in_err-put_said.result (rw (c.as_bytes.ensures.value, c.format.ensures.text) at c.in_ok-put_all.ensures) (wrote_then _ _ _ (codes " ") (said_by c.args.earlier (seen c.args.state.now) ++ (codes "\n")) c.from_residual-in_err-put_said.result c.in_ok-put_all-2.ensures (wrote_front _ _ (said_by c.args.earlier (seen c.args.state.now)) (codes "\n") c.from_residual-in_err-put_said.result c.from_residual-in_err-put_said.ensures.0 c.in_err-put_said.ensures))

pub returns : goal.returns
returns g c =
    wrote_then _ _ _ (decimal c.args.pc) (codes " " ++ (said_by c.args.earlier (seen c.args.state.now) ++ (codes "\n"))) c.put_all-3.result (rw (c.as_bytes.ensures.value, c.format.ensures.text) at c.in_ok-put_all.ensures) (wrote_then _ _ _ (codes " ") (said_by c.args.earlier (seen c.args.state.now) ++ (codes "\n")) c.put_all-3.result c.in_ok-put_all-2.ensures (wrote_then _ _ _ (said_by c.args.earlier (seen c.args.state.now)) (codes "\n") c.put_all-3.result c.in_ok-put_said.ensures (c.put_all-3.ensures)))
