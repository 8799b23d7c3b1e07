use Rattle.std.proofs.Common.{◌∙◌}
use Rattle.bucket_store.specs.Dependents.{names_of}
use Rattle.bucket_store.proofs.Pruned.{all_thrown, same_names}
use Rattle.bucket_store.proofs.indexed.Indexed.forget.Goals as goal

pub invariant_of-self-clause-indexed : goal.invariant_of-self-clause-indexed
invariant_of-self-clause-indexed g c =
    same_names c.prune.new.dependents c.drop_empty.new.self c.drop_empty.ensures.names c.drop_empty.ensures.lost (g.R.Rings.lists c.args.self.now.rings) (c.prune.ensures.noted c.args.self.now.indexed)

pub returns-clause-none : goal.returns-clause-none
returns-clause-none g c = c.has_none.ensures.none

pub returns-clause-sure : goal.returns-clause-sure
returns-clause-sure g c unused =
    c.has_none.ensures.sure
    (c.drop_empty.ensures.names c.args.pool ∙ (c.prune.ensures.names ∙ all_thrown _ unused (names_of c.args.self.now.dependents c.args.pool)))
    unused
