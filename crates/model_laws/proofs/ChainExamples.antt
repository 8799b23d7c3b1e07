-- The small chains, computed.
use Rattle.std.proofs.Common.{refl}
use Rattle.module_code.specs.Program.{pool_of_brigade, pool_of_pool}
use Rattle.run_model.specs.Indexed.{upd, any_below}
use Rattle.run_model.specs.Pools.{is_live, is_under, planted, created, registered_as, cleared, destroyed}
use Rattle.run_model.specs.RunOrder.{is_child, children_below, own_run, pre_run, runs_within, run_order, last_that, without_last, killed}
use Rattle.run_model.specs.State.{is_own_at, named_at, set_pool, with_pools, set_brigade, set_number, set_cursor, set_loose}
use Rattle.run_model.specs.Clearing.{run_down}
use Rattle.run_model.specs.Faults.{cursor_fault, has_pool_at, is_stray, keeps_stray}
use Rattle.run_model.specs.BrigadeLists.{buckets_before, buckets_from}
use Rattle.run_model.specs.Cursors.{found_below, holder_of, variable_of, place_of_cursor}
use Rattle.run_model.specs.Steps.{with_brigade, all_referred, text_of, is_spent, lacks_names, current}
use Rattle.run_model.specs.Chains.{module_at, configuration, put_back, stepped_in, first_staying, place_from}
use Rattle.run_model.specs.Passing.{parts_taken, taken, delivered, delivered_by, passed_to, returned_to, returned_from, proceeds, put_out_by}
use Rattle.run_model.specs.Turns.{executed, steps, numbers_below, all_called, opened, begun, begins, opens_file, brings, ends, closing_labels}
use Rattle.run_model.specs.Worlds.{opens, tree_below, happens_on}
use Rattle.model_laws.specs.Examples.{answers_from, left_by}
use Rattle.model_laws.specs.ChainExamples.{ChainRuns}

pub chain_runs : ChainRuns
unfolding answers_from left_by opens tree_below happens_on executed steps numbers_below all_called opened begun begins opens_file brings ends closing_labels parts_taken taken delivered delivered_by
    passed_to returned_to returned_from proceeds put_out_by first_staying place_from module_at configuration put_back stepped_in with_brigade all_referred text_of is_spent lacks_names
    current found_below holder_of variable_of place_of_cursor
    buckets_before buckets_from cursor_fault has_pool_at is_stray keeps_stray run_down is_own_at named_at set_pool with_pools set_brigade set_number set_cursor set_loose is_child children_below
    own_run pre_run runs_within run_order last_that without_last killed is_live is_under planted created registered_as cleared destroyed upd any_below pool_of_brigade pool_of_pool
chain_runs = search
