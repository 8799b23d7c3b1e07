use Rattle.byte_text.proofs.WritingLaws.{wrote_then}
use Rattle.life_check.specs.declared.version.CertVersion.TheVariants as version
use Rattle.life_cert.specs.CertText.{code_line, vars_line}
use Rattle.life_cert.proofs.print.put_shape.Goals as goal

pub returns-in_ok-put_vars-in-Two : goal.returns-in_ok-put_vars-in-Two
returns-in_ok-put_vars-in-Two g c =
    rw c.in-Two.is (wrote_then _ _ _ (vars_line (version.Two c.in-Two.pools c.in-Two.brigades c.in-Two.code)) (code_line (version.Two c.in-Two.pools c.in-Two.brigades c.in-Two.code)) c.put_code.result
    c.in_ok-put_vars-in-Two.ensures c.put_code.ensures)
