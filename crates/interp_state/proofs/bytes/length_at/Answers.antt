-- The bucket that is seen there tells.
use Rattle.std.proofs.Common.{sym, ap, ◌∙◌}
use Rattle.run_model.specs.Cutting.{length_of}
use Rattle.run_model.specs.Cursors.{at_cursor}
use Rattle.brigade_ops.specs.Store.{lists, next_name}
use Rattle.interp_state.specs.Seen.{seen_over}
use Rattle.interp_state.proofs.Standing.{content_of_bucket}
use Rattle.interp_state.proofs.bytes.length_at.Goals as goal

pub returns : goal.returns
returns g c =
    λ view.
    let v = c.view_at.ensures view in
    c.len.ensures ∙ ap length_of
    (sym (content_of_bucket (at_cursor (seen_over (lists c.args.store.now) (next_name c.args.store.now) view c.args.instance.now c.args.call.now) c.args.c) v.0 v.1.0 ∙ v.1.2))
