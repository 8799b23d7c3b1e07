use Rattle.std.proofs.Common.{false, length, slice_get, arith}
use Rattle.life_check.specs.Seen.{seen_line}
use Rattle.life_cert.specs.CertText.{pc_line}
use Rattle.life_cert.proofs.Writing.{each_begins, each_ends, each_fault, each_written}
use Rattle.life_cert.proofs.print.put_whole_lines.Goals as goal

pub loop-pc-init : goal.loop-pc-init
loop-pc-init g c = each_begins _ (length c.args.at.now) (pc_line false (λ k. seen_line (slice_get c.args.at.now k)))

pub returns-in_err-put_whole_line : goal.returns-in_err-put_whole_line
returns-in_err-put_whole_line g c = each_fault _ _ _ _ _ (pc_line false (λ k. seen_line (slice_get c.args.at.now k))) _ c.loop-pc.invariant (omega arith) c.from_residual.ensures.0 c.in_err-put_whole_line.ensures

pub loop-pc-preserved : goal.loop-pc-preserved
loop-pc-preserved g c = each_written _ _ _ _ _ (pc_line false (λ k. seen_line (slice_get c.args.at.now k))) c.loop-pc.invariant (omega arith) c.in_ok-put_whole_line.ensures

pub returns : goal.returns
returns g c = each_ends _ _ (length c.args.at.now) c.loop-pc.pc (pc_line false (λ k. seen_line (slice_get c.args.at.now k))) c.loop-pc.invariant (omega arith)
