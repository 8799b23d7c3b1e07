-- The walk stopped at an unfit bucket where there is one.
use Rattle.std.proofs.Common.{◌∙◌}
use Rattle.std.specs.Prelude.{if◌then◌else◌}
use Rattle.bucket_ring.specs.Lists.{list_at}
use Rattle.run_model.specs.Buckets.{is_ended}
use Rattle.run_model.specs.Faults.{is_stray}
use Rattle.brigade_ops.specs.Store.{lists}
use Rattle.interp_state.specs.Context.{in_context}
use Rattle.interp_state.specs.Seen.{calls_in, seen_over}
use Rattle.interp_state.proofs.Walked.{any_visited}
use Rattle.interp_checks.proofs.home_walks.has_unfit.Goals as goal

pub returns : goal.returns
returns g c rings next pools view =
    let over = in_context c.args.context.now pools view in
    c.is_some.ensures
    ∙ any_visited _ (calls_in over c.args.call.now) (λ x. if c.args.strays then is_stray (seen_over rings next over c.args.instance.now c.args.call.now) x.bucket.home else is_ended x.bucket.home) _
    (λ id x stop t asked. (asked.0, asked.1 rings next pools view)) (list_at (lists c.args.store.now) c.args.b) c.visit.result c.visit.new.visitor c.visit.ensures.all
