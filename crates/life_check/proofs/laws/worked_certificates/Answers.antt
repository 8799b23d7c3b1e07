use Rattle.life_check.proofs.Examples.{identity_answers, fault_rows}
use Rattle.life_check.proofs.alone.Examples.{beside_rows}
use Rattle.life_check.proofs.laws.worked_certificates.Goals as goal

pub returns-clause-answers : goal.returns-clause-answers
returns-clause-answers c = identity_answers

pub returns-clause-faults : goal.returns-clause-faults
returns-clause-faults c = fault_rows

pub returns-clause-beside : goal.returns-clause-beside
returns-clause-beside c = beside_rows
