-- A dead home of the list is one of the brigade in the variable.
use Rattle.std.proofs.Common.{sym, ap, ◌∙◌}
use Rattle.std.specs.Bool.{then_some}
use Rattle.run_model.specs.declared.fault.FaultKind.TheVariants.{F5}
use Rattle.run_model.specs.Faults.{homes_fault}
use Rattle.brigade_ops.specs.Store.{lists, next_name}
use Rattle.interp_state.specs.Seen.{calls_in}
use Rattle.interp_state.specs.Context.{in_context}
use Rattle.interp_state.specs.Slots.{live_in, slot_at}
use Rattle.interp_state.proofs.Contents.{homes_told}
use Rattle.interp_checks.proofs.LiveContents.{live_contents, some_where}
use Rattle.interp_checks.proofs.brigade_wants.want_homes.Goals as goal

pub returns-clause-value : goal.returns-clause-value
returns-clause-value g c pools view =
    let over = in_context c.args.context.now pools view in
    let call = c.args.call.now in
    let s = c.args.store.now in
    let i = c.args.instance.now in
    c.then_some.ensures
    ∙ (ap (λ t. then_some t F5) (c.has_unfit-dead.ensures (lists s) (next_name s) pools view)
    ∙ (some_where _ F5
    ∙ (ap homes_fault (live_contents s c.live.new.store c.live.ensures.asked (calls_in over call)
    (slot_at i c.args.b) c.in-Some.name (sym c.in-Some.is ∙ (c.live.ensures.value ∙ ap (live_in (lists s)) c.slot.ensures)))
    ∙ homes_told (lists s) (next_name s) over i call c.args.b)))
