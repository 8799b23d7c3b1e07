-- Late data of the list are those of the brigade in the variable.
use Rattle.std.proofs.Common.{cond, Some, None, List, sym, ap, ◌∙◌}
use Rattle.std.specs.Bool.{then_some}
use Rattle.run_model.specs.declared.bucket.NamedBucket.{NamedBucket}
use Rattle.run_model.specs.declared.fault.FaultKind.TheVariants.{F8}
use Rattle.brigade_ops.specs.Store.{lists, next_name}
use Rattle.interp_state.specs.Seen.{calls_in}
use Rattle.interp_state.specs.Slots.{live_in, slot_at}
use Rattle.interp_state.specs.Tests.{late_data}
use Rattle.interp_state.proofs.Contents.{send_told}
use Rattle.interp_checks.proofs.LiveContents.{live_contents, some_where}
use Rattle.interp_checks.proofs.brigade_wants.want_send.Goals as goal

pub returns-clause-value : goal.returns-clause-value
returns-clause-value g c view call =
    let s = c.args.store.now in
    let i = c.args.instance.now in
    c.then_some.ensures
    ∙ (ap (λ t. then_some t F8) (c.has_late_data.ensures (calls_in view call))
    ∙ (some_where _ F8
    ∙ (ap (λ (xs : List NamedBucket). cond (late_data i.sent xs) (Some F8) None)
    (live_contents s c.live.new.store c.live.ensures.asked (calls_in view call) (slot_at i c.args.b) c.in-Some.name
    (sym c.in-Some.is ∙ (c.live.ensures.value ∙ ap (live_in (lists s)) c.slot.ensures)))
    ∙ send_told (lists s) (next_name s) view i call c.args.b)))
