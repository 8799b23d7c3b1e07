-- A brigade that is parted is there, and a cursor stands in one, since there is no fault. A partition wants a name where its point lies inside a bucket.
use Rattle.std.proofs.Common.{◌≡◌, true, is_some, refl, sym, ap, ◌∙◌}
use Rattle.run_model.specs.BucketSteps.{has_rest, items_at, names_if, names_to_part, names_to_read}
use Rattle.run_model.specs.Faults.{InBrigade}
use Rattle.run_model.specs.Steps.{names_for}
use Rattle.brigade_ops.specs.Store.{lists, next_name}
use Rattle.brigade_ops.specs.Store as store
use Rattle.interp_state.specs.Seen.{seen_over, calls_in}
use Rattle.interp_state.specs.Shown.{shown_at}
use Rattle.interp_state.specs.Slots.{live_in, slot_at}
use Rattle.interp_state.proofs.Asked.{across_live}
use Rattle.interp_state.proofs.Needed.{stands, usable_live}
use Rattle.interp_state.proofs.Running.{some_shown}
use Rattle.interp_state.proofs.Slots.{made_in}
use Rattle.interp_state.proofs.Standing.{within_seen}
use Rattle.interp_state.proofs.asks.names.Goals as goal
use Rattle.interp_state.proofs.asks.names.Goals.{In-PartBrigade}

live : (g : _) (c : In-PartBrigade g) → is_some (live_in (lists c.args.store.now) (slot_at c.args.instance.now c.in-PartBrigade.b)) ≡ true
live g c = usable_live c.requires.faultless.1 c.in-PartBrigade.is 0 c.in-PartBrigade.b refl

pub brigade-requires-clause-made : goal.brigade-requires-clause-made
brigade-requires-clause-made g c = made_in (lists c.args.store.now) (slot_at c.args.instance.now c.in-PartBrigade.b) (live g (goal.at.brigade-requires-clause-made g c).In-PartBrigade)

pub bucket_across-requires : goal.bucket_across-requires
bucket_across-requires g c = c.brigade.ensures.there (lists c.args.store.now) (live g (goal.at.bucket_across-requires g c).In-PartBrigade)

pub returns-in-PartBrigade : goal.returns-in-PartBrigade
returns-in-PartBrigade g c view =
    let s = c.args.store.now in
    let call = c.args.call.now in
    let r = seen_over (lists s) (next_name s) view c.args.instance.now call in
    let runs = calls_in view call in
    c.names_if.ensures
    ∙ (ap names_if (c.is_some.ensures ∙ sym (some_shown s runs c.bucket_across.result c.bucket_across.ensures.there))
    ∙ (across_live (lists s) (next_name s) view c.args.instance.now call c.in-PartBrigade.b c.brigade.result c.from-point.result (shown_at runs (store.bucket_at s) c.bucket_across.result)
    (c.brigade.ensures.live (lists s) (live g (goal.at.returns-in-PartBrigade g c).In-PartBrigade)) (c.bucket_across.ensures.at runs)
    ∙ (ap (λ p. names_to_part p (items_at r c.in-PartBrigade.b)) (c.from-point.ensures ∙ c.value_of.ensures (lists s) (next_name s) view call)
    ∙ sym (ap (names_for r) c.in-PartBrigade.is))))

pub is_unsplit-requires-clause-stands : goal.is_unsplit-requires-clause-stands
is_unsplit-requires-clause-stands g c = stands c.requires.faultless.1 c.in-Split.is 0 c.in-Split.c InBrigade refl

pub returns-in-Read : goal.returns-in-Read
returns-in-Read g c view =
    let s = c.args.store.now in
    let v = c.view_at.ensures view in
    let stands = stands c.requires.faultless.1 c.in-Read.is 0 c.in-Read.c InBrigade refl in
    let w = within_seen s c.args.instance.now c.args.call.now c.in-Read.c c.requires.held stands view v.0 v.1.0 in
    c.names_if-in-Read.ensures
    ∙ (ap names_if (c.has_rest.ensures ∙ ap has_rest (sym v.1.2))
    ∙ (ap names_to_read (sym w.1) ∙ sym (ap (names_for (seen_over (lists s) (next_name s) view c.args.instance.now c.args.call.now)) c.in-Read.is)))
