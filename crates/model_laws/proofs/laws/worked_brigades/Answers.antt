use Rattle.model_laws.proofs.BrigadeLists.{partition_rows, brigade_split_rows, bucket_split_rows, move_rows}
use Rattle.model_laws.proofs.laws.worked_brigades.Goals as goal

pub returns-clause-partitions : goal.returns-clause-partitions
returns-clause-partitions c = partition_rows

pub returns-clause-brigade_splits : goal.returns-clause-brigade_splits
returns-clause-brigade_splits c = brigade_split_rows

pub returns-clause-bucket_splits : goal.returns-clause-bucket_splits
returns-clause-bucket_splits c = bucket_split_rows

pub returns-clause-moves : goal.returns-clause-moves
returns-clause-moves c = move_rows
