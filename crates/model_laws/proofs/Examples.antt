-- The small runs, computed.
use Rattle.std.proofs.Common.{rules}
use Rattle.module_code.specs.Program.{pool_of_brigade, pool_of_pool}
use Rattle.run_model.specs.Indexed.{upd, any_below}
use Rattle.run_model.specs.Pools.{is_live, is_under, planted, created, registered_as, cleared, destroyed}
use Rattle.run_model.specs.RunOrder.{is_child, children_below, own_run, pre_run, runs_within, run_order, last_that, without_last, killed}
use Rattle.run_model.specs.State.{is_own_at, named_at, set_pool, with_pools, set_brigade, set_number}
use Rattle.run_model.specs.Clearing.{run_down}
use Rattle.run_model.specs.Faults.{has_pool_at, is_stray, keeps_stray}
use Rattle.run_model.specs.Steps.{all_referred, with_brigade, text_of, is_spent, lacks_names, current}
use Rattle.run_model.specs.Chains.{module_at, configuration, put_back, stepped_in, first_staying, place_from}
use Rattle.run_model.specs.Passing.{parts_taken, taken, delivered, delivered_by, passed_to, returned_to, returned_from, proceeds, put_out_by}
use Rattle.run_model.specs.Turns.{executed, steps, numbers_below, all_called, opened, begun, begins, opens_file, brings, ends, closing_labels}
use Rattle.run_model.specs.Worlds.{opens, tree_below, happens_on}
use Rattle.model_laws.specs.Examples.{answers_from, left_by, PassRuns, PoolRuns, PoolEnds, KindRuns, FaultRuns, BreakRuns, RefusedRuns, NameRuns, HeldFaults, HeldChanges}

-- all of them
pub record Runs : Type 0 where
  pub pass_runs : PassRuns
  pub pool_runs : PoolRuns
  pub pool_ends : PoolEnds
  pub fault_runs : FaultRuns
  pub break_runs : BreakRuns
  pub refused_runs : RefusedRuns
  pub name_runs : NameRuns
  pub held_faults : HeldFaults
  pub held_changes : HeldChanges
  pub kind_runs : KindRuns

pub runs : Runs
unfolding answers_from left_by opens tree_below happens_on executed steps numbers_below all_called opened begun begins opens_file brings ends closing_labels parts_taken taken delivered delivered_by
    passed_to returned_to returned_from proceeds put_out_by first_staying place_from module_at configuration put_back stepped_in upd any_below is_live is_under planted created destroyed set_brigade set_number named_at is_own_at
    has_pool_at is_stray keeps_stray all_referred with_brigade is_spent lacks_names current pool_of_brigade pool_of_pool registered_as cleared killed is_child children_below own_run pre_run runs_within
    run_order last_that without_last set_pool with_pools run_down text_of
runs = search rules
