use Rattle.filter_chain.proofs.Unfaulted.{reached_worlds_answer_unfaulted}
use Rattle.filter_chain.proofs.laws.checked_chains_refuse_for_no_fault.Goals as goal

pub returns : goal.returns
returns c = reached_worlds_answer_unfaulted
