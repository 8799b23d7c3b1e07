-- The walk stopped at an EOS where there is one.
use Rattle.std.proofs.Common.{◌∙◌}
use Rattle.bucket_ring.specs.Lists.{list_at}
use Rattle.run_model.specs.Buckets.{is_eos}
use Rattle.brigade_ops.specs.Store.{lists}
use Rattle.interp_state.proofs.Walked.{any_visited}
use Rattle.interp_calls.proofs.passes.has_eos.Goals as goal

pub returns : goal.returns
returns g c runs =
    c.is_some.ensures ∙ any_visited _ runs is_eos _ (λ id x stop t asked. asked) (list_at (lists c.args.store.now) c.args.b) c.visit.result c.visit.new.visitor c.visit.ensures.all
