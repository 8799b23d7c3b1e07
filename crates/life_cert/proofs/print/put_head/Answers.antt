use Rattle.std.proofs.Common.{◌++◌}
use Rattle.byte_text.proofs.WritingLaws.{wrote_then}
use Rattle.life_cert.specs.CertText.{code_line, first_line, is_two, vars_line}
use Rattle.life_cert.proofs.print.put_head.Goals as goal

pub returns : goal.returns
returns g c =
    wrote_then _ _ _ (first_line (is_two c.args.version) c.args.slim) (vars_line c.args.version ++ code_line c.args.version) c.put_shape.result
    (rw (c.first_line.ensures, c.is_two.ensures) at c.in_ok-put_all.ensures) c.put_shape.ensures
