-- The buckets of a variable whose brigade is there, and of one whose brigade is not.
use Rattle.std.proofs.Common.{◌≡◌, ℕ, true, [], Option, Some, None, is_some, refl}
use Rattle.bucket_ring.specs.Lists.{list_at}
use Rattle.run_model.specs.State.{items_of}
use Rattle.run_model.specs.declared.bucket.Mark.{Mark}
use Rattle.bucket_store.specs.Items.{Items}
use Rattle.interp_state.specs.declared.machine.Instance.{Instance}
use Rattle.interp_state.specs.declared.machine.Call.{Call}
use Rattle.interp_state.specs.declared.machine.Slot.{Slot}
use Rattle.interp_state.specs.declared.machine.Slot.TheVariants as slot
use Rattle.interp_state.specs.ContextViews.{ContextView}
use Rattle.interp_state.specs.Slots.{slot_at, live_in}
use Rattle.interp_state.specs.Seen.{seen_over, calls_in, shown, shown_as, shown_slot}
use Rattle.interp_state.proofs.Changes.{live_is, items_of_slot}

pub live_there : (L : ℕ → Option Items) (s : Slot) (n : ℕ) → live_in L s ≡ Some n → is_some (L n) ≡ true
live_there L s n is = (live_is L s n is).1.1.1

module _ (L : ℕ → Option Items) (k : ℕ) (view : ContextView) (i : Instance) (call : Call) (b : ℕ) where
  pub items_live : (n : ℕ) → live_in L (slot_at i b) ≡ Some n → items_of ((seen_over L k view i call).instance.brigades b) ≡ shown (calls_in view call) (list_at L n)
  items_live n is = let t = live_is L (slot_at i b) n is in items_of_slot L k view i call b n t.0 t.1.0 t.1.1.0

  pub items_dead : live_in L (slot_at i b) ≡ None → items_of ((seen_over L k view i call).instance.brigades b) ≡ []
  unfolding seen_over
  items_dead none = go (slot_at i b) none where
    made : (n : ℕ) (pool : Option ℕ) (mark : Mark) (o : Option Items) → live_in (λ (m : ℕ). o) (slot.Made n pool mark) ≡ None → items_of (shown_as (calls_in view call) n pool mark o) ≡ []
    made n pool mark None e = refl
    made n pool mark (Some xs) e = absurd (cc)

    go : (s : Slot) → live_in L s ≡ None → items_of (shown_slot (calls_in view call) L s) ≡ []
    go slot.Null e = refl
    go (slot.Made n pool mark) e = made n pool mark (L n) e
