-- The bucket that is seen there tells.
use Rattle.std.proofs.Common.{ℕ, is_some, sym, ap, ◌∙◌}
use Rattle.run_model.specs.BrigadeLists.{split_refusal}
use Rattle.run_model.specs.BucketSteps.{is_unsplit}
use Rattle.run_model.specs.Cursors.{CursorPlace}
use Rattle.run_model.specs.Steps.{value_of}
use Rattle.brigade_ops.specs.Store.{lists, next_name}
use Rattle.interp_state.specs.Seen.{seen_over}
use Rattle.interp_state.proofs.Standing.{within_seen}
use Rattle.interp_state.proofs.asks.is_unsplit.Goals as goal

pub returns : goal.returns
returns g c =
    λ view.
    let r = seen_over (lists c.args.store.now) (next_name c.args.store.now) view c.args.instance.now c.args.call.now in
    let v = c.view_at.ensures view in
    let w = within_seen c.args.store.now c.args.instance.now c.args.call.now c.args.c c.requires.held c.requires.stands view v.0 v.1.0 in
    c.is_refused.ensures v.0 v.1.1 v.1.2
    ∙ (ap (λ (n : ℕ). is_some (split_refusal n v.0)) (c.value_of.ensures (lists c.args.store.now) (next_name c.args.store.now) view c.args.call.now)
    ∙ ap (λ (s : CursorPlace). is_unsplit (value_of r c.args.x) s) (sym w.1))
