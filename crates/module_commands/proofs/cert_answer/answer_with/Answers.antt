use Rattle.module_commands.proofs.AnswerLaws.{tells_cert_fault, tells_answer}
use Rattle.module_commands.proofs.cert_answer.answer_with.Goals as goal

pub returns-in-Err : goal.returns-in-Err
returns-in-Err c = tells_cert_fault c.args.task c.cert_fault.result _ _ c.in-Err.refusal c.in-Err.ensures.told c.cert_fault.ensures

pub returns-in-Ok : goal.returns-in-Ok
returns-in-Ok c = tells_answer c.args.task c.answer_for.result _ _ c.in-Ok.cert c.in-Ok.ensures.right c.answer_for.ensures
