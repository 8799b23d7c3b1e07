use Rattle.std.proofs.Common.{◌++◌, codes}
use Rattle.byte_text.proofs.WritingLaws.{wrote_then}
use Rattle.life_cert.proofs.Writing.{wrote_front}
use Rattle.life_check.specs.Seen.{seen_cert}
use Rattle.life_cert.specs.CertText.{between_line, cert_text, head_lines, is_two, pc_line}
use Rattle.life_cert.specs.StateText.{each}
use Rattle.life_cert.proofs.print.print_cert.Goals as goal

pub returns-in_err-put_head : goal.returns-in_err-put_head
unfolding cert_text
returns-in_err-put_head g c =
    wrote_front _ _ (head_lines c.args.cert.now.version c.args.cert.now.slim) (between_line (codes "idle ") (seen_cert c.args.cert.now).idle ++ (between_line (codes "ready ") (seen_cert c.args.cert.now).ready ++ (each 0 (seen_cert c.args.cert.now).lines (pc_line (is_two c.args.cert.now.version) (seen_cert c.args.cert.now).at) ++ (codes "end\n")))) c.from_residual.result c.from_residual.ensures.0 c.in_err-put_head.ensures

pub returns-in_err-put_between : goal.returns-in_err-put_between
unfolding cert_text
returns-in_err-put_between g c =
    wrote_then _ _ _ (head_lines c.args.cert.now.version c.args.cert.now.slim) (between_line (codes "idle ") (seen_cert c.args.cert.now).idle ++ (between_line (codes "ready ") (seen_cert c.args.cert.now).ready ++ (each 0 (seen_cert c.args.cert.now).lines (pc_line (is_two c.args.cert.now.version) (seen_cert c.args.cert.now).at) ++ (codes "end\n")))) c.from_residual-in_err-put_between.result c.in_ok-put_head.ensures (wrote_front _ _ (between_line (codes "idle ") (seen_cert c.args.cert.now).idle) (between_line (codes "ready ") (seen_cert c.args.cert.now).ready ++ (each 0 (seen_cert c.args.cert.now).lines (pc_line (is_two c.args.cert.now.version) (seen_cert c.args.cert.now).at) ++ (codes "end\n"))) c.from_residual-in_err-put_between.result c.from_residual-in_err-put_between.ensures.0 c.in_err-put_between.ensures)

pub returns-in_err-put_between-2 : goal.returns-in_err-put_between-2
unfolding cert_text
returns-in_err-put_between-2 g c =
    wrote_then _ _ _ (head_lines c.args.cert.now.version c.args.cert.now.slim) (between_line (codes "idle ") (seen_cert c.args.cert.now).idle ++ (between_line (codes "ready ") (seen_cert c.args.cert.now).ready ++ (each 0 (seen_cert c.args.cert.now).lines (pc_line (is_two c.args.cert.now.version) (seen_cert c.args.cert.now).at) ++ (codes "end\n")))) c.from_residual-in_err-put_between-2.result c.in_ok-put_head.ensures (wrote_then _ _ _ (between_line (codes "idle ") (seen_cert c.args.cert.now).idle) (between_line (codes "ready ") (seen_cert c.args.cert.now).ready ++ (each 0 (seen_cert c.args.cert.now).lines (pc_line (is_two c.args.cert.now.version) (seen_cert c.args.cert.now).at) ++ (codes "end\n"))) c.from_residual-in_err-put_between-2.result c.in_ok-put_between.ensures (wrote_front _ _ (between_line (codes "ready ") (seen_cert c.args.cert.now).ready) (each 0 (seen_cert c.args.cert.now).lines (pc_line (is_two c.args.cert.now.version) (seen_cert c.args.cert.now).at) ++ (codes "end\n")) c.from_residual-in_err-put_between-2.result c.from_residual-in_err-put_between-2.ensures.0 c.in_err-put_between-2.ensures))

pub returns-in_err-put_lines : goal.returns-in_err-put_lines
unfolding cert_text
returns-in_err-put_lines g c =
    wrote_then _ _ _ (head_lines c.args.cert.now.version c.args.cert.now.slim) (between_line (codes "idle ") (seen_cert c.args.cert.now).idle ++ (between_line (codes "ready ") (seen_cert c.args.cert.now).ready ++ (each 0 (seen_cert c.args.cert.now).lines (pc_line (is_two c.args.cert.now.version) (seen_cert c.args.cert.now).at) ++ (codes "end\n")))) c.from_residual-in_err-put_lines.result c.in_ok-put_head.ensures (wrote_then _ _ _ (between_line (codes "idle ") (seen_cert c.args.cert.now).idle) (between_line (codes "ready ") (seen_cert c.args.cert.now).ready ++ (each 0 (seen_cert c.args.cert.now).lines (pc_line (is_two c.args.cert.now.version) (seen_cert c.args.cert.now).at) ++ (codes "end\n"))) c.from_residual-in_err-put_lines.result c.in_ok-put_between.ensures (wrote_then _ _ _ (between_line (codes "ready ") (seen_cert c.args.cert.now).ready) (each 0 (seen_cert c.args.cert.now).lines (pc_line (is_two c.args.cert.now.version) (seen_cert c.args.cert.now).at) ++ (codes "end\n")) c.from_residual-in_err-put_lines.result c.in_ok-put_between-2.ensures (wrote_front _ _ (each 0 (seen_cert c.args.cert.now).lines (pc_line (is_two c.args.cert.now.version) (seen_cert c.args.cert.now).at)) (codes "end\n") c.from_residual-in_err-put_lines.result c.from_residual-in_err-put_lines.ensures.0 (rw (c.as_slice.ensures.value, c.is_two.ensures) at c.in_err-put_lines.ensures))))

pub returns : goal.returns
unfolding cert_text
returns g c =
    wrote_then _ _ _ (head_lines c.args.cert.now.version c.args.cert.now.slim) (between_line (codes "idle ") (seen_cert c.args.cert.now).idle ++ (between_line (codes "ready ") (seen_cert c.args.cert.now).ready ++ (each 0 (seen_cert c.args.cert.now).lines (pc_line (is_two c.args.cert.now.version) (seen_cert c.args.cert.now).at) ++ (codes "end\n")))) c.put_all.result c.in_ok-put_head.ensures (wrote_then _ _ _ (between_line (codes "idle ") (seen_cert c.args.cert.now).idle) (between_line (codes "ready ") (seen_cert c.args.cert.now).ready ++ (each 0 (seen_cert c.args.cert.now).lines (pc_line (is_two c.args.cert.now.version) (seen_cert c.args.cert.now).at) ++ (codes "end\n"))) c.put_all.result c.in_ok-put_between.ensures (wrote_then _ _ _ (between_line (codes "ready ") (seen_cert c.args.cert.now).ready) (each 0 (seen_cert c.args.cert.now).lines (pc_line (is_two c.args.cert.now.version) (seen_cert c.args.cert.now).at) ++ (codes "end\n")) c.put_all.result c.in_ok-put_between-2.ensures (wrote_then _ _ _ (each 0 (seen_cert c.args.cert.now).lines (pc_line (is_two c.args.cert.now.version) (seen_cert c.args.cert.now).at)) (codes "end\n") c.put_all.result (rw (c.as_slice.ensures.value, c.is_two.ensures) at c.in_ok-put_lines.ensures) (c.put_all.ensures))))
