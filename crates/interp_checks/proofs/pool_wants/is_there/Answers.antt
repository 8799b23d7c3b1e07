-- The tree is asked once, or not at all.
use Rattle.interp_checks.proofs.OnlyAsked.{tree_asked_nothing, tree_asked_once}
use Rattle.interp_checks.proofs.pool_wants.is_there.Goals as goal

pub returns-in-Some-clause-asked : goal.returns-in-Some-clause-asked
returns-in-Some-clause-asked c = tree_asked_once c.args.tree.now c.is_live.new.self _ c.is_live.ensures.counted

pub returns-in-None-clause-asked : goal.returns-in-None-clause-asked
returns-in-None-clause-asked c = tree_asked_nothing c.args.tree.now
