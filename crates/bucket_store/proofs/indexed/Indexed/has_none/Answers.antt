use Rattle.std.proofs.Common.{sym, ◌∙◌}
use Rattle.bucket_store.specs.Dependents.{noted}
use Rattle.bucket_store.proofs.Kept.{none_noted}
use Rattle.bucket_store.proofs.Pruned.{none_under}
use Rattle.bucket_store.proofs.indexed.Indexed.has_none.Goals as goal

pub returns-clause-none : goal.returns-clause-none
returns-clause-none g c yes_ =
    let s = c.args.self.now in
    none_under (noted s.dependents) (g.R.Rings.ring_at s.rings) (g.R.Rings.lists s.rings) c.args.pool s.indexed
    (none_noted s.dependents c.args.pool (c.has_none.ensures.none yes_) (c.has_none.ensures.kept yes_))

pub returns-clause-sure : goal.returns-clause-sure
returns-clause-sure g c none unused = c.has_none.ensures.sure none (sym c.is_lost.ensures ∙ c.if-is_lost.false)
