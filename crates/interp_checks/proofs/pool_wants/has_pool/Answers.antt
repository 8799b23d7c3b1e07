-- A pool that is named is live where the tree has it.
use Rattle.std.proofs.Common.{ap, ◌∙◌}
use Rattle.pool_tree.specs.Tree.{map_of}
use Rattle.run_model.specs.Faults.{is_live_named, has_pool_at}
use Rattle.interp_state.specs.Seen.{seen_over}
use Rattle.interp_checks.proofs.pool_wants.has_pool.Goals as goal

pub returns-clause-value : goal.returns-clause-value
unfolding has_pool_at seen_over
returns-clause-value c = λ rings next view call.
    c.is_there.ensures.value ∙ ap (is_live_named (map_of c.args.tree.now)) (c.pool_named.ensures (map_of c.args.tree.now) rings next view call)
