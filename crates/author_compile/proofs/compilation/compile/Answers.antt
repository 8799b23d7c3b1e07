-- What `check` says where it accepts.
use Rattle.std.proofs.Common.{refl}
use Rattle.author_compile.proofs.compilation.compile.Goals as goal

pub returns-in-Ok-check-clause-typed : goal.returns-in-Ok-check-clause-typed
returns-in-Ok-check-clause-typed c = c.in-Ok-check.ensures.accepts.0 refl

pub returns-in-Ok-check-clause-safe : goal.returns-in-Ok-check-clause-safe
returns-in-Ok-check-clause-safe c = c.in-Ok-check.ensures.safe refl

pub returns-in-Ok-check-clause-instances : goal.returns-in-Ok-check-clause-instances
returns-in-Ok-check-clause-instances c = c.in-Ok-check.ensures.instances refl
