-- Small states and runs with cursors, computed.
use Rattle.std.proofs.Common.{rules}
use Rattle.module_code.specs.Program.{pool_of_brigade, pool_of_pool}
use Rattle.run_model.specs.Indexed.{upd, any_below}
use Rattle.run_model.specs.Pools.{is_live, is_under, planted, created, registered_as, registered_as}
use Rattle.run_model.specs.State.{is_own_at, named_at, with_pools, set_brigade, set_number, set_cursor, set_loose}
use Rattle.run_model.specs.Faults.{cursor_fault, has_pool_at, is_stray, keeps_stray}
use Rattle.run_model.specs.BrigadeLists.{buckets_before, buckets_from, length_in, front_to, back_from, bucket_across}
use Rattle.run_model.specs.Cursors.{found_below, holder_of, variable_of, place_of_cursor}
use Rattle.run_model.specs.Steps.{all_referred, with_brigade, text_of, is_spent, lacks_names, current}
use Rattle.run_model.specs.Chains.{module_at, configuration, put_back, stepped_in, first_staying, place_from}
use Rattle.run_model.specs.Passing.{parts_taken, taken, delivered, delivered_by, passed_to, returned_to, returned_from, proceeds, put_out_by}
use Rattle.run_model.specs.Turns.{executed, steps, numbers_below, all_called, opened, begun, begins, brings}
use Rattle.run_model.specs.Worlds.{opens, happens_on}
use Rattle.model_laws.specs.Examples.{answers_from, left_by}
use Rattle.model_laws.specs.BucketExamples.{CursorRows, MovingRows, MakerRows, CutRows, BrigadeCutRows, CursorFaults, FirstFaults, CursorRuns}

-- all that are of one state or of two
pub record Rows : Type 0 where
  pub cursor_rows : CursorRows
  pub moving_rows : MovingRows
  pub maker_rows : MakerRows
  pub cut_rows : CutRows
  pub brigade_cut_rows : BrigadeCutRows
  pub cursor_faults : CursorFaults
  pub first_faults : FirstFaults

pub rows : Rows
unfolding upd any_below is_live is_under planted created registered_as is_own_at named_at with_pools set_brigade set_number set_cursor set_loose cursor_fault has_pool_at buckets_before buckets_from
    length_in front_to back_from bucket_across found_below holder_of variable_of place_of_cursor all_referred text_of opened all_called numbers_below module_at configuration
rows = search rules

pub cursor_runs : CursorRuns
unfolding upd any_below is_live is_under planted created registered_as is_own_at named_at with_pools set_brigade set_number set_cursor set_loose cursor_fault has_pool_at buckets_before buckets_from
    length_in front_to back_from bucket_across found_below holder_of variable_of place_of_cursor all_referred with_brigade text_of opened all_called numbers_below module_at configuration put_back
    stepped_in opens happens_on executed steps begun begins brings parts_taken taken delivered delivered_by passed_to returned_to returned_from proceeds put_out_by first_staying place_from is_stray keeps_stray is_spent lacks_names
    current pool_of_brigade pool_of_pool answers_from left_by
cursor_runs = search rules
