use Rattle.std.proofs.Common.{◌<◌}
use Rattle.author_text.proofs.scope.Resolver.+sets.Given as goal

abbrev pub decreases-add_run : goal.decreases-add_run
decreases-add_run l = l.depth

abbrev pub decreases-add_set : goal.decreases-add_set
decreases-add_set l = l.depth

abbrev pub invariant-add_set-loop-stmt : goal.invariant-add_set-loop-stmt
invariant-add_set-loop-stmt l = l.below < l.fn.depth
