use Rattle.std.proofs.lemmas.List.Sorted.{IsNonDecreasingBy-from_sort}
use Rattle.brigade_ops.proofs.PoolsReached.{all_reached}
use Rattle.brigade_ops.proofs.reached.Reached.new.Goals as goal

pub invariant_of-result : goal.invariant_of-result
invariant_of-result c = record { rising = IsNonDecreasingBy-from_sort (λ n. n) _ c.sort_unstable.ensures.sorted }

pub returns : goal.returns
returns c = all_reached c.args.tree.now c.args.pool c.in_ok-under.under.items _ c.requires c.in_ok-under.ensures c.sort_unstable.ensures.permutation
