-- No refusal is no rule that refuses, and then no run answers a fault, and no open run of an instance.
use Rattle.life_check.specs.Slim.{meant, Accepts}
use Rattle.life_check.proofs.Meant.{accepted}
use Rattle.life_check.proofs.alone.Safe.{typed_is_safe}
use Rattle.life_check.proofs.SafeChains.{typed_alone_never_faults}
use Rattle.life_check.proofs.checked.check.Goals as goal

pub returns-clause-accepts : goal.returns-clause-accepts
returns-clause-accepts c = accepted c.args.code.now c.args.cert.now c.check_all.result c.check_all.ensures.first

pub returns-clause-safe : goal.returns-clause-safe
returns-clause-safe c = λ ok.
    let a : Accepts c.args.code.now c.args.cert.now = (accepted c.args.code.now c.args.cert.now c.check_all.result c.check_all.ensures.first).0 ok in
    typed_alone_never_faults c.args.code.now (meant c.args.code.now c.args.cert.now) (c.check_all.ensures.proper ok) (c.check_all.ensures.bounded ok) a.typed

pub returns-clause-instances : goal.returns-clause-instances
returns-clause-instances c = λ ok.
    let a : Accepts c.args.code.now c.args.cert.now = (accepted c.args.code.now c.args.cert.now c.check_all.result c.check_all.ensures.first).0 ok in
    typed_is_safe c.args.code.now (meant c.args.code.now c.args.cert.now) (c.check_all.ensures.proper ok) (c.check_all.ensures.bounded ok) a.typed
