-- The walk stopped at late data where there is some.
use Rattle.std.proofs.Common.{◌∙◌}
use Rattle.bucket_ring.specs.Lists.{list_at}
use Rattle.brigade_ops.specs.Store.{lists}
use Rattle.interp_checks.proofs.LateVisits.{late_visited}
use Rattle.interp_checks.proofs.home_walks.has_late_data.Goals as goal

pub returns : goal.returns
returns g c runs =
    let xs = list_at (lists c.args.store.now) c.args.b in
    c.is_some.ensures
    ∙ late_visited _ (λ s. s.late) runs (λ s id x stop t looked. looked) (record { late = c.args.sent }) xs c.visit.result c.visit.new.visitor c.visit.ensures.all
