-- The bucket that is seen there tells.
use Rattle.std.proofs.Common.{ℕ, sym, ap, ◌∙◌}
use Rattle.run_model.specs.BucketSteps.{byte_of}
use Rattle.run_model.specs.Cursors.{read_cursor, at_cursor}
use Rattle.run_model.specs.Steps.{value_of}
use Rattle.run_model.specs.declared.bucket.Content.{Content}
use Rattle.brigade_ops.specs.Store.{lists, next_name}
use Rattle.bucket_store.specs.Views.{content_of}
use Rattle.interp_state.specs.Seen.{seen_over}
use Rattle.interp_state.proofs.Standing.{content_of_bucket}
use Rattle.interp_state.proofs.bytes.byte_read.Goals as goal

pub returns : goal.returns
returns g c =
    λ view.
    let r = seen_over (lists c.args.store.now) (next_name c.args.store.now) view c.args.instance.now c.args.call.now in
    let v = c.view_at.ensures view in
    c.byte_of.ensures
    ∙ (ap (λ (k : ℕ). byte_of k (content_of c.view_at.result.content)) (c.value_of.ensures (lists c.args.store.now) (next_name c.args.store.now) view c.args.call.now)
    ∙ ap (λ (x : Content). byte_of (value_of r c.args.x) x) (sym (content_of_bucket (at_cursor r read_cursor) v.0 v.1.0 ∙ v.1.2)))
