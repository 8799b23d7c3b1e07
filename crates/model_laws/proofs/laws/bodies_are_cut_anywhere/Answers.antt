use Rattle.model_laws.proofs.Cuts.{output_of_cuts, fault_of_cuts}
use Rattle.model_laws.proofs.laws.bodies_are_cut_anywhere.Goals as goal

pub returns-clause-output : goal.returns-clause-output
returns-clause-output c = output_of_cuts

pub returns-clause-fault : goal.returns-clause-fault
returns-clause-fault c = fault_of_cuts
