-- The place of the cursor tells its bucket.
use Rattle.std.proofs.Common.{◌≡◌, ℕ, Bool, Option, Some, is_some, sym, ap, ◌∙◌}
use Rattle.bucket_ring.specs.declared.names.BucketId.{BucketId}
use Rattle.bucket_ring.specs.declared.rings.Rings.{Ghosts}
use Rattle.run_model.specs.declared.bucket.Bucket.{Bucket}
use Rattle.bucket_ring.specs.Lists.{found, list_at}
use Rattle.run_model.specs.Cursors.{CursorPlace, at_cursor}
use Rattle.run_model.specs.Cursors as model
use Rattle.bucket_kinds.specs.declared.stored.Stored.{Stored}
use Rattle.bucket_store.specs.Items.{named_item}
use Rattle.bucket_store.specs.Laws.{IsGiven}
use Rattle.brigade_ops.specs.declared.store.Brigades.{Brigades}
use Rattle.brigade_ops.specs.Store.{lists, brigade_of, next_name}
use Rattle.brigade_ops.specs.Store as store
use Rattle.bucket_store.proofs.Saves.{found_some}
use Rattle.brigade_ops.proofs.Stores.{found_in, found_bucket, given}
use Rattle.interp_state.specs.Seen.{calls_in, item_in}
use Rattle.interp_state.specs.Shown.{shown_at}
use Rattle.interp_checks.specs.OnlyAsked.{OnlyAsked}
use Rattle.interp_checks.proofs.OnlyAsked.{buckets_same, places_same}
use Rattle.interp_state.proofs.Running.{shown_is}
use Rattle.interp_state.proofs.Stands.{stands_within, stands_loose}
use Rattle.interp_checks.proofs.home_wants.bucket_of.Goals as goal

-- A bucket that is in a list of a store, which another became where it was only asked.
record FoundBefore {R : Type 0} {g : Ghosts R Stored} (old new : Brigades R g) (runs : ℕ → Bool) (id : BucketId) (ring : ℕ) : Type 0 where
  bucket : Bucket
  here : found id (list_at (lists old) ring) ≡ Some bucket
  named : IsGiven id (list_at (lists old) ring)
  shown : shown_at runs (store.bucket_at new) (Some id) ≡ Some (named_item (item_in runs (id, bucket)))

found_before : {R : Type 0} {g : Ghosts R Stored} (old new : Brigades R g) → OnlyAsked old new → (runs : ℕ → Bool) (id : BucketId) (ring : ℕ) → brigade_of new id ≡ Some ring
    → FoundBefore old new runs id ring
found_before old new asked runs id ring inside =
    let at = sym (ap (λ (f : BucketId → Option ℕ). f id) (places_same old new asked)) ∙ inside in
    let x = found_some id (list_at (lists old) ring) (found_in old id ring at) in
    record {
      bucket = x.0;
      here = x.1;
      named = given old id ring (ap is_some at);
      shown = ap (λ (f : BucketId → Option Bucket). shown_at runs f (Some id)) (buckets_same old new asked) ∙ shown_is runs (store.bucket_at old) id x.0 (found_bucket old id ring x.0 at x.1);
    }

pub returns-in-Within-clause-at : goal.returns-in-Within-clause-at
returns-in-Within-clause-at g c view =
    let s = c.args.store.now in
    let id = c.in-Within.id in
    let n = c.in-Within.ensures.inside.1 in
    let x = found_before s c.place_of.new.store c.in-Within.ensures.asked (calls_in view c.args.call.now) id n.0 n.1.1 in
    x.shown ∙ ap model.bucket_at (sym (stands_within (lists s) (next_name s) view c.args.instance.now c.args.call.now c.args.c id x.bucket c.in-Within.field-0 n.0 x.named
    (c.in-Within.ensures.at (next_name s) view) n.1.0 x.here))

pub returns-in-Within-clause-there : goal.returns-in-Within-clause-there
returns-in-Within-clause-there g c = ap is_some c.in-Within.ensures.inside.1.1.1

pub returns-in-Loose-clause-at : goal.returns-in-Loose-clause-at
returns-in-Loose-clause-at g c view =
    let s = c.args.store.now in
    let id = c.in-Loose.id in
    let call = c.args.call.now in
    let x = found_before s c.place_of.new.store c.in-Loose.ensures.asked (calls_in view call) id call.name c.in-Loose.ensures.inside in
    x.shown ∙ ap model.bucket_at (sym (stands_loose (lists s) (next_name s) view c.args.instance.now call c.args.c id x.bucket x.named (c.in-Loose.ensures.at (next_name s) view) x.here))

pub returns-in-Loose-clause-there : goal.returns-in-Loose-clause-there
returns-in-Loose-clause-there g c = ap is_some c.in-Loose.ensures.inside
