use Rattle.model_laws.proofs.parts.Lasting.{parts_last, old_last, own_last}
use Rattle.model_laws.proofs.parts.Keeping.{steps_keep}
use Rattle.model_laws.proofs.parts.Touched.{touched_lies, others_lie}
use Rattle.model_laws.proofs.parts.Lying.{steps_lie}
use Rattle.model_laws.proofs.laws.parts_last.Goals as goal

pub returns-clause-tops : goal.returns-clause-tops
returns-clause-tops c = parts_last

pub returns-clause-old : goal.returns-clause-old
returns-clause-old c = old_last

pub returns-clause-files : goal.returns-clause-files
returns-clause-files c = own_last

pub returns-clause-steps : goal.returns-clause-steps
returns-clause-steps c = steps_keep

pub returns-clause-touched : goal.returns-clause-touched
returns-clause-touched c = touched_lies

pub returns-clause-others : goal.returns-clause-others
returns-clause-others c = others_lie

pub returns-clause-lies : goal.returns-clause-lies
returns-clause-lies c = steps_lie
