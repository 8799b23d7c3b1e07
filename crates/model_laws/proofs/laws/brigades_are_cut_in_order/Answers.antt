use Rattle.model_laws.proofs.BrigadeLists.{brigade_splits_in_order, moves_keep_names, bucket_splits_in_order, split_keeps_bytes, parts_at_point, short_is_incomplete, partition_keeps_bytes}
use Rattle.model_laws.proofs.BrigadeLists.{unsplit_is_unchanged, metadata_is_not_split, place_is_behind_front}
use Rattle.model_laws.proofs.laws.brigades_are_cut_in_order.Goals as goal

pub returns-clause-brigade_split : goal.returns-clause-brigade_split
returns-clause-brigade_split c = brigade_splits_in_order

pub returns-clause-bucket_split : goal.returns-clause-bucket_split
returns-clause-bucket_split c = bucket_splits_in_order

pub returns-clause-split_list : goal.returns-clause-split_list
returns-clause-split_list c = split_keeps_bytes

pub returns-clause-partition : goal.returns-clause-partition
returns-clause-partition c = parts_at_point

pub returns-clause-incomplete : goal.returns-clause-incomplete
returns-clause-incomplete c = short_is_incomplete

pub returns-clause-parts : goal.returns-clause-parts
returns-clause-parts c = partition_keeps_bytes

pub returns-clause-place : goal.returns-clause-place
returns-clause-place c = place_is_behind_front

pub returns-clause-unsplit : goal.returns-clause-unsplit
returns-clause-unsplit c = unsplit_is_unchanged

pub returns-clause-metadata : goal.returns-clause-metadata
returns-clause-metadata c = metadata_is_not_split

pub returns-clause-moves : goal.returns-clause-moves
returns-clause-moves c = moves_keep_names
