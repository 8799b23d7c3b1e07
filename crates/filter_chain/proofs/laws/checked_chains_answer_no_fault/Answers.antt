use Rattle.filter_chain.proofs.Safety.{reached_worlds_answer_no_fault}
use Rattle.filter_chain.proofs.laws.checked_chains_answer_no_fault.Goals as goal

pub returns : goal.returns
returns c = reached_worlds_answer_no_fault
