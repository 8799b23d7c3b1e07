-- What stands before the cursor, and from it on.
use Rattle.std.proofs.Common.{◌≡◌, ℕ, Bool, List, [], Option, Some, None, refl, sym, ap, ◌∙◌}
use Rattle.bucket_ring.specs.Lists.{list_at, front, rest}
use Rattle.bucket_ring.specs.declared.names.BucketId.{BucketId}
use Rattle.bucket_ring.specs.declared.rings.Rings.{Ghosts}
use Rattle.bucket_kinds.specs.declared.stored.Stored.{Stored}
use Rattle.brigade_ops.specs.declared.store.Brigades.{Brigades}
use Rattle.bucket_store.specs.Items.{Items}
use Rattle.bucket_store.specs.Laws.{IsGiven}
use Rattle.run_model.specs.BrigadeLists.{moves, stays}
use Rattle.run_model.specs.BucketSteps.{items_at, place_at}
use Rattle.run_model.specs.Cursors.{at_cursor}
use Rattle.run_model.specs.declared.bucket.NamedBucket.{NamedBucket}
use Rattle.interp_state.specs.declared.machine.Instance.{Instance}
use Rattle.interp_state.specs.declared.machine.Call.{Call}
use Rattle.interp_state.specs.ContextViews.{ContextView}
use Rattle.brigade_ops.specs.Store.{lists, brigade_of, next_name}
use Rattle.brigade_ops.proofs.Stores.{kept}
use Rattle.interp_state.specs.Seen.{seen_over, calls_in, shown}
use Rattle.interp_exec.proofs.Cuts.{before_shown, cut_at, place_within}
use Rattle.interp_state.proofs.Slots.{name_there, given_in}
use Rattle.interp_state.proofs.Standing.{this_at, this_end, this_set}
use Rattle.interp_state.proofs.Stands.{cursor_at_end}
use Rattle.interp_state.proofs.Walks.{from_shown}
use Rattle.interp_exec.proofs.part_steps.place_in.Goals as goal
use Rattle.interp_exec.proofs.part_steps.place_in.Goals.{In-At, In-End}

-- The cursor c stands at a bucket of the brigade that is in the variable b.
record CursorAt {R : Type 0} {g : Ghosts R Stored} (store : Brigades R g) (i : Instance) (call : Call) (c b name : ℕ) (id : BucketId) : Type 0 where
  given : IsGiven id (list_at (lists store) name)
  place : (view : ContextView) → place_at (at_cursor (seen_over (lists store) (next_name store) view i call) c) ≡ Some id.birth

pub returns-in-At-clause-inside : goal.returns-in-At-clause-inside
returns-in-At-clause-inside g c =
    (this_at c.args.store.now c.args.instance.now c.args.call.now c.args.c c.requires.held c.args.b c.args.name c.requires.named c.requires.stands c.in-At.id (sym c.cursor.ensures ∙ c.in-At.is)).0

-- The cursor stands at a bucket of the brigade.
at : (g : _) (c : In-At g) → CursorAt c.args.store.now c.args.instance.now c.args.call.now c.args.c c.args.b c.args.name c.in-At.id
at g c =
    let s = c.args.store.now in
    let t = this_at s c.args.instance.now c.args.call.now c.args.c c.requires.held c.args.b c.args.name c.requires.named c.requires.stands c.in-At.id (sym c.cursor.ensures ∙ c.in-At.is) in
    record {
      given = given_in (brigade_of s) (lists s) (next_name s) c.in-At.id (kept s) (name_there (brigade_of s) (lists s) (next_name s) c.args.name c.in-At.id (kept s) t.0) c.args.name;
      place = λ view. place_within (seen_over (lists s) (next_name s) view c.args.instance.now c.args.call.now) c.args.c c.args.b c.in-At.id.birth (t.1 view);
    }

-- A cut of the list at this bucket is one of the variable.
cut : (g : _) (c : In-At g) (view : ContextView) (model : Option ℕ → List NamedBucket → List NamedBucket) (h : Items → Items)
    → ((runs : ℕ → Bool) (xs : Items) → IsGiven c.in-At.id xs → model (Some c.in-At.id.birth) (shown runs xs) ≡ shown runs (h xs))
    → let r = seen_over (lists c.args.store.now) (next_name c.args.store.now) view c.args.instance.now c.args.call.now in
    shown (calls_in view c.args.call.now) (h (list_at (lists c.args.store.now) c.args.name)) ≡ model (place_at (at_cursor r c.args.c)) (items_at r c.args.b)
cut g c view model h is =
    let t = at g c in
    let runs = calls_in view c.args.call.now in
    let xs = list_at (lists c.args.store.now) c.args.name in
    cut_at (lists c.args.store.now) (next_name c.args.store.now) view c.args.instance.now c.args.call.now c.args.c c.args.b c.args.name c.requires.named
    model (Some c.in-At.id.birth) (shown runs (h xs)) (t.place view) (sym (is runs xs t.given))

pub returns-in-At-clause-stays : goal.returns-in-At-clause-stays
returns-in-At-clause-stays g c view = cut g (goal.at.returns-in-At-clause-stays g c).In-At view stays (front c.in-At.id) (λ runs xs. before_shown runs c.in-At.id xs)

pub returns-in-At-clause-moves : goal.returns-in-At-clause-moves
returns-in-At-clause-moves g c view = cut g (goal.at.returns-in-At-clause-moves g c).In-At view moves (rest c.in-At.id) (λ runs xs. from_shown runs c.in-At.id xs)

-- It stands at the end of the brigade.
end : (g : _) (c : In-End g) (view : ContextView) → place_at (at_cursor (seen_over (lists c.args.store.now) (next_name c.args.store.now) view c.args.instance.now c.args.call.now) c.args.c) ≡ None
end g c view =
    ap place_at (cursor_at_end (seen_over (lists c.args.store.now) (next_name c.args.store.now) view c.args.instance.now c.args.call.now) c.args.c c.args.b
    (this_end c.args.store.now c.args.instance.now c.args.call.now c.args.c c.requires.held c.args.b c.in-End.field-0 c.requires.stands (sym c.cursor.ensures ∙ c.in-End.is) view))

pub returns-in-End-clause-stays : goal.returns-in-End-clause-stays
returns-in-End-clause-stays g c view =
    cut_at (lists c.args.store.now) (next_name c.args.store.now) view c.args.instance.now c.args.call.now c.args.c c.args.b c.args.name c.requires.named stays None
    (shown (calls_in view c.args.call.now) (list_at (lists c.args.store.now) c.args.name)) (end g (goal.at.returns-in-End-clause-stays g c).In-End view) refl

pub returns-in-End-clause-moves : goal.returns-in-End-clause-moves
returns-in-End-clause-moves g c view =
    cut_at (lists c.args.store.now) (next_name c.args.store.now) view c.args.instance.now c.args.call.now c.args.c c.args.b c.args.name c.requires.named moves None []
    (end g (goal.at.returns-in-End-clause-moves g c).In-End view) refl

pub unreachable-requires : goal.unreachable-requires
unreachable-requires g c = this_set c.args.store.now c.args.instance.now c.args.call.now c.args.c c.requires.held c.args.b c.requires.stands (sym c.cursor.ensures ∙ c.in-Unset.is)
