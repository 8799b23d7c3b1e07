-- The buckets of the brigade tell.
use Rattle.std.proofs.Common.{ℕ, Option, sym, ap, ◌∙◌}
use Rattle.run_model.specs.Buckets.{has_eos}
use Rattle.brigade_ops.specs.Store.{lists}
use Rattle.interp_state.specs.Contents.{contents}
use Rattle.interp_calls.proofs.passes.holds_eos.Goals as goal

pub returns : goal.returns
returns g c runs =
    let L = lists c.args.store.now in
    c.has_eos.ensures runs ∙ ap (λ (o : Option ℕ). has_eos (contents runs L o)) (sym (c.brigade.ensures.live L c.requires.live))
