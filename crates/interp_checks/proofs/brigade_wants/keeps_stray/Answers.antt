-- What is asked of a variable is told by its slot.
use Rattle.std.proofs.Common.{ℕ, Option, sym, ap, ◌∙◌}
use Rattle.std.specs.List.{list_any}
use Rattle.bucket_ring.specs.Lists.{list_at}
use Rattle.bucket_store.specs.Items.{Items}
use Rattle.brigade_ops.specs.Store.{lists, next_name}
use Rattle.run_model.specs.Faults.{is_stray}
use Rattle.interp_state.specs.Context.{in_context}
use Rattle.interp_state.specs.Seen.{seen_over, seen, calls_in, shown}
use Rattle.interp_state.specs.declared.machine.Slot.TheVariants as slot
use Rattle.interp_state.specs.Slots.{slot_at}
use Rattle.interp_state.proofs.Contents.{stray_gone, stray_null, stray_passed, stray_there}
use Rattle.interp_checks.proofs.OnlyAsked.{asked_once, lists_same}
use Rattle.interp_checks.proofs.brigade_wants.keeps_stray.Goals as goal

pub returns-then-has-clause-value : goal.returns-then-has-clause-value
unfolding seen_over
returns-then-has-clause-value g c pools view =
    let over = in_context c.args.context.now pools view in
    let i = c.args.instance.now in
    let call = c.args.call.now in
    let s = c.args.store.now in
    c.has_unfit.ensures (lists s) (next_name s) pools view
    ∙ (ap (λ (L : ℕ → Option Items). list_any (λ b. is_stray (seen s over i call) b.bucket.home) (shown (calls_in over call) (list_at L c.in-Made.name)))
    (lists_same s c.has.new.self (asked_once s c.has.new.self _ c.has.ensures.counted))
    ∙ stray_there (seen s over i call) (calls_in over call) (lists s) (slot_at i c.args.b) c.in-Made.name c.in-Made.field-1
    (sym c.slot.ensures ∙ (c.in-Made.is ∙ ap (slot.Made c.in-Made.name c.in-Made.field-1) c.in-Usable.is)) (sym c.has.ensures.value ∙ c.if-has.true))

pub returns-else-has-clause-value : goal.returns-else-has-clause-value
unfolding seen_over
returns-else-has-clause-value g c pools view =
    let s = c.args.store.now in
    let over = in_context c.args.context.now pools view in
    c.if-has.false
    ∙ stray_gone (seen s over c.args.instance.now c.args.call.now) (calls_in over c.args.call.now) (lists s) (slot_at c.args.instance.now c.args.b) c.in-Made.name c.in-Made.field-1 c.in-Made.mark
    (sym c.slot.ensures ∙ c.in-Made.is) (sym c.has.ensures.value ∙ c.if-has.false)

pub returns-in_default-clause-value : goal.returns-in_default-clause-value
unfolding seen_over
returns-in_default-clause-value g c pools view =
    stray_null (seen c.args.store.now (in_context c.args.context.now pools view) c.args.instance.now c.args.call.now)
    (calls_in (in_context c.args.context.now pools view) c.args.call.now) (lists c.args.store.now) (slot_at c.args.instance.now c.args.b) (sym c.slot.ensures ∙ c.in_default.is)

pub returns-in-Passed-clause-value : goal.returns-in-Passed-clause-value
unfolding seen_over
returns-in-Passed-clause-value g c pools view =
    let is = sym c.slot.ensures ∙ (c.in-Made.is ∙ ap (slot.Made c.in-Made.name c.in-Made.field-1) c.in-Passed.is) in
    stray_passed (seen c.args.store.now (in_context c.args.context.now pools view) c.args.instance.now c.args.call.now)
    (calls_in (in_context c.args.context.now pools view) c.args.call.now) (lists c.args.store.now) (slot_at c.args.instance.now c.args.b) c.in-Made.name c.in-Made.field-1 is
