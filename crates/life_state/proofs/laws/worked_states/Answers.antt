-- They compute.
use Rattle.std.proofs.Common.{rules}
use Rattle.module_code.specs.Program.{pool_of_brigade, pool_of_pool}
use Rattle.run_model.specs.Indexed.{upd, any_below}
use Rattle.life_state.specs.Facts.{known, facts_of, moved, set_cursor}
use Rattle.life_state.specs.Order.{all_below, brigade_leq, leq}
use Rattle.life_state.specs.PoolOrder.{under_within}
use Rattle.life_state.specs.Rules.{cleared_under, at_end_of_request}
use Rattle.life_state.specs.Examples.{IdentityRows, OtherRows}
use Rattle.life_state.proofs.laws.worked_states.Goals as goal

identity_rows : IdentityRows
unfolding pool_of_brigade pool_of_pool upd any_below known facts_of moved all_below brigade_leq leq under_within cleared_under at_end_of_request
identity_rows = search rules

other_rows : OtherRows
unfolding upd any_below known facts_of moved set_cursor
other_rows = search rules

pub returns-clause-identity : goal.returns-clause-identity
returns-clause-identity c = identity_rows

pub returns-clause-others : goal.returns-clause-others
returns-clause-others c = other_rows
