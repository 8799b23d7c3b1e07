-- The lengths of the brigade's buckets tell.
use Rattle.std.proofs.Common.{nat_lt, ap, ◌∙◌}
use Rattle.run_model.specs.BrigadeLists.{is_short}
use Rattle.run_model.specs.BucketSteps.{items_at}
use Rattle.brigade_ops.specs.Store.{lists, next_name}
use Rattle.interp_state.specs.Seen.{seen_over}
use Rattle.interp_state.proofs.Asked.{short_live}
use Rattle.interp_state.proofs.asks.is_incomplete.Goals as goal

pub returns : goal.returns
returns g c =
    λ view call.
    let s = c.args.store.now in
    let r = seen_over (lists s) (next_name s) view c.args.instance.now call in
    ap (λ n. nat_lt n c.from-point.result) c.length.ensures
    ∙ (short_live (lists s) (next_name s) view c.args.instance.now call c.args.b c.brigade.result c.from-point.result (c.brigade.ensures.live (lists s) c.requires.live)
    ∙ ap (λ p. is_short p (items_at r c.args.b)) (c.from-point.ensures ∙ c.value_of.ensures (lists s) (next_name s) view call))
