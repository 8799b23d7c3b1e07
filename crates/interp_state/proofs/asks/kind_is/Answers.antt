-- The bucket that is seen there tells.
use Rattle.std.proofs.Common.{Option, sym, ap, ◌∙◌}
use Rattle.run_model.specs.BucketSteps.{is_of_kind, kind_is}
use Rattle.run_model.specs.declared.bucket.Kind.{Kind}
use Rattle.run_model.specs.declared.bucket.NamedBucket.{NamedBucket}
use Rattle.interp_state.proofs.asks.kind_is.Goals as goal

pub returns : goal.returns
returns g c =
    λ view.
    let v = c.view_at.ensures view in
    c.is_of_kind.ensures ∙ (ap (λ (k : Kind). is_of_kind c.args.test k) (sym v.1.1) ∙ ap (λ (o : Option NamedBucket). kind_is c.args.test o) (sym v.1.0))
