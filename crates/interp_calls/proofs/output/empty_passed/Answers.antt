-- The variable is passed, and its brigade is empty.
use Rattle.std.proofs.Common.{◌≡◌, ap, ◌∙◌, []}
use Rattle.std.proofs.lemmas.Bool.{eq-eqb}
use Rattle.std.specs.Prelude.{Bool, if◌then◌else◌, refl}
use Rattle.run_model.specs.declared.bucket.Mark.TheVariants.{Passed}
use Rattle.brigade_ops.specs.Store.{lists, brigade_of, pool_of, next_name}
use Rattle.interp_state.specs.Slots.{slot_at, live_in, marked}
use Rattle.interp_state.proofs.LeftAlone.{left_on, ours_slot}
use Rattle.interp_state.proofs.Vars.{live_marked}
use Rattle.interp_state.proofs.Names.{apart_in, held_kept, no_less, still_on}
use Rattle.interp_calls.proofs.PassedOut.{lent_cleaned}
use Rattle.interp_calls.proofs.output.empty_passed.Goals as goal

pub returns-clause-seen : goal.returns-clause-seen
returns-clause-seen g c =
    λ around call held.
    let s = c.args.store.now in
    let i = c.hand_over_with.new.instance in
    let set : slot_at i c.args.b ≡ marked Passed (slot_at c.args.instance.now c.args.b) = c.hand_over_with.ensures.slots c.args.b
    ∙ ap (λ (t : Bool). if t then marked Passed (slot_at c.args.instance.now c.args.b) else slot_at c.args.instance.now c.args.b) (eq-eqb c.args.b c.args.b refl) in
    lent_cleaned (lists s) (next_name s) around i call c.args.b (lists c.clean.new.self) (next_name c.clean.new.self) c.brigade-name.result (slot_at c.args.instance.now c.args.b)
    (apart_in (brigade_of s) (lists s) (pool_of s) (next_name s) i call (c.hand_over_with.ensures.held call held))
    set (ap (live_in (lists s)) set ∙ (live_marked (lists s) Passed (slot_at c.args.instance.now c.args.b) ∙ c.brigade-name.ensures.live (lists s) c.requires.live)) c.clean.ensures.next
    c.clean.ensures.out
    ∙ c.hand_over_with.ensures.seen around call

pub returns-clause-held : goal.returns-clause-held
returns-clause-held g c =
    λ call held.
    held_kept c.args.store.now c.clean.new.self (no_less (next_name c.args.store.now) (next_name c.clean.new.self) c.clean.ensures.next) c.clean.ensures.names c.clean.ensures.pools
    (still_on (lists c.args.store.now) (lists c.clean.new.self) c.brigade-name.result (λ xs. []) c.clean.ensures.out)
    c.hand_over_with.new.instance call (c.hand_over_with.ensures.held call held)

pub returns-clause-left : goal.returns-clause-left
returns-clause-left g c =
    λ call.
    let s = c.args.store.now in
    let i = c.hand_over_with.new.instance in
    left_on s c.clean.new.self (no_less (next_name s) (next_name c.clean.new.self) c.clean.ensures.next) c.clean.ensures.names c.clean.ensures.pools c.clean.ensures.references
    c.clean.ensures.unasked c.brigade-name.result (λ xs. []) c.clean.ensures.out c.args.instance.now call
    (ours_slot c.args.instance.now call c.args.b c.brigade-name.result c.brigade-name.ensures.name)
