use Rattle.std.proofs.Common.{ap, ◌∙◌}
use Rattle.life_cert.specs.Codes.{code_number}
use Rattle.script_text.specs.Heads.{head_of}
use Rattle.script_text.proofs.HeadLaws.{cert_over, cert_taken}
use Rattle.script_text.proofs.texts.Texts.end_cert.Goals as goal

pub returns-in_ok-put_cert_fault-in-Err-Fault-clause-ok :
    goal.returns-in_ok-put_cert_fault-in-Err-Fault-clause-ok
returns-in_ok-put_cert_fault-in-Err-Fault-clause-ok c =
    let fault = c.in-Err-Fault in
    let told = rw fault.field-0-is at fault.ensures.told in
    cert_over (head_of c.args.self.now) _ fault.line _ _ fault.code c.args.out.now.items _ _ c.as_slice.ensures.value told fault.line-is
    (c.number.ensures ∙ ap code_number fault.code-is) c.in_ok-put_cert_fault-in-Err-Fault.ensures.ok

pub returns-in_ok-give_cert-in-Ok-clause-ok : goal.returns-in_ok-give_cert-in-Ok-clause-ok
returns-in_ok-give_cert-in-Ok-clause-ok c =
    cert_taken (head_of c.args.self.now) c.in-Ok.cert c.args.out.now.items _ _ _ c.as_slice.ensures.value c.in-Ok.ensures.right c.in_ok-give_cert-in-Ok.ensures c.clear.ensures.items
