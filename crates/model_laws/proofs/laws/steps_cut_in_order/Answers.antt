use Rattle.model_laws.proofs.CursorSteps.{splits_in_order, refused_split_jumps, brigades_split_in_order, partitions_in_order, past_end_jumps}
use Rattle.model_laws.proofs.laws.steps_cut_in_order.Goals as goal

pub returns-clause-bucket : goal.returns-clause-bucket
returns-clause-bucket c = splits_in_order

pub returns-clause-refused : goal.returns-clause-refused
returns-clause-refused c = refused_split_jumps

pub returns-clause-brigade : goal.returns-clause-brigade
returns-clause-brigade c = brigades_split_in_order

pub returns-clause-partition : goal.returns-clause-partition
returns-clause-partition c = partitions_in_order

pub returns-clause-past_end : goal.returns-clause-past_end
returns-clause-past_end c = past_end_jumps
