use Rattle.std.proofs.Common.{◌<◌}
use Rattle.author_text.proofs.scope.Resolver.+resolve.Given as goal

abbrev pub decreases-block_of : goal.decreases-block_of
decreases-block_of l = l.depth

abbrev pub decreases-enter : goal.decreases-enter
decreases-enter l = l.depth

abbrev pub decreases-run : goal.decreases-run
decreases-run l = l.depth

abbrev pub decreases-stmt : goal.decreases-stmt
decreases-stmt l = l.depth

abbrev pub decreases-walk : goal.decreases-walk
decreases-walk l = l.depth

abbrev pub invariant-block_of-loop-stmt : goal.invariant-block_of-loop-stmt
invariant-block_of-loop-stmt l = l.below < l.fn.depth
