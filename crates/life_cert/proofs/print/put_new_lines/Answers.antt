use Rattle.std.proofs.Common.{true, length, slice_get, arith}
use Rattle.life_check.specs.Seen.{seen_line}
use Rattle.life_cert.specs.CertText.{pc_line}
use Rattle.life_cert.proofs.Writing.{each_begins, each_ends, each_fault, each_written}
use Rattle.life_cert.proofs.print.put_new_lines.Goals as goal

pub loop-pc-init : goal.loop-pc-init
loop-pc-init g c = (each_begins _ (length c.args.at.now) (pc_line true (λ k. seen_line (slice_get c.args.at.now k))), λ k low short. absurd (omega (arith, low)))

pub returns-in_err-put_new_line : goal.returns-in_err-put_new_line
returns-in_err-put_new_line g c = each_fault _ _ _ _ _ (pc_line true (λ k. seen_line (slice_get c.args.at.now k))) _ c.loop-pc.invariant.0 (omega arith) c.from_residual.ensures.0 c.in_err-put_new_line.ensures

pub loop-pc-preserved : goal.loop-pc-preserved
loop-pc-preserved g c = (each_written _ _ _ _ _ (pc_line true (λ k. seen_line (slice_get c.args.at.now k))) c.loop-pc.invariant.0 (omega arith) c.in_ok-put_new_line.ensures, c.note_sum.ensures)

pub returns : goal.returns
returns g c = each_ends _ _ (length c.args.at.now) c.loop-pc.pc (pc_line true (λ k. seen_line (slice_get c.args.at.now k))) c.loop-pc.invariant.0 (omega arith)
