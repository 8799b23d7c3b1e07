-- A brigade that the output took.
use Rattle.std.proofs.Common.{◌≡◌, ℕ, Bool, [], Some, None, Option, refl, sym, ap, ◌∙◌}
use Rattle.bucket_ring.specs.Lists.{on}
use Rattle.run_model.specs.declared.bucket.BrigadeVar.{BrigadeVar}
use Rattle.run_model.specs.declared.bucket.Mark.{Mark}
use Rattle.run_model.specs.declared.bucket.Mark.TheVariants.{Passed}
use Rattle.run_model.specs.Effects.{handed_over, with_items}
use Rattle.run_model.specs.State.{set_brigade}
use Rattle.bucket_store.specs.Items.{Items}
use Rattle.interp_state.specs.declared.machine.Instance.{Instance}
use Rattle.interp_state.specs.declared.machine.Call.{Call}
use Rattle.interp_state.specs.declared.machine.Slot.{Slot}
use Rattle.interp_state.specs.declared.machine.Slot.TheVariants as slot
use Rattle.interp_state.specs.ContextViews.{ContextView}
use Rattle.interp_calls.specs.Handed.{lent}
use Rattle.interp_state.specs.Slots.{slot_at, live_in, marked}
use Rattle.interp_state.specs.Seen.{seen_over, calls_in, shown_as, shown_slot}
use Rattle.interp_state.proofs.Changes.{ApartIn, live_is, seen_same, seen_slot}

mark_is : (s : Slot) (n : ℕ) (pool : Option ℕ) (mark : Mark) → marked Passed s ≡ slot.Made n pool mark → mark ≡ Passed
mark_is slot.Null n pool mark is = absurd (cc)
mark_is (slot.Made m p old) n pool mark is = cc

empty_shown : (runs : ℕ → Bool) (n : ℕ) (pool : Option ℕ) (o : Option Items) → with_items [] (shown_as runs n pool Passed o) ≡ handed_over (shown_as runs n pool Passed o)
empty_shown runs n pool None = refl
empty_shown runs n pool (Some xs) = refl

module _ (L : ℕ → Option Items) (k : ℕ) (view : ContextView) (i : Instance) (call : Call) (b : ℕ) where
  pub lent_cleaned : (M : ℕ → Option Items) (l n : ℕ) (old : Slot) → ApartIn i call → slot_at i b ≡ marked Passed old → live_in L (slot_at i b) ≡ Some n → l ≡ k → ((j : ℕ) → M j ≡ on n (λ xs. []) L j)
      → seen_over M l view i call ≡ lent b (seen_over L k view i call)
  unfolding seen_over
  lent_cleaned M l n old held set is same out =
      let runs = calls_in view call in
      let r = seen_over L k view i call in
      let t = live_is L (slot_at i b) n is in
      let passed : slot_at i b ≡ slot.Made n t.0 Passed = t.1.1.0 ∙ ap (λ (m : Mark). slot.Made n t.0 m) (mark_is old n t.0 t.1.0 (sym set ∙ t.1.1.0)) in
      seen_same (on n (λ xs. []) L) k view i call M l same out
      ∙ (seen_slot L k view i call b n t.0 Passed (λ xs. []) [] held passed refl
      ∙ ap (λ (v : BrigadeVar). set_brigade b v r)
      (ap (λ (s : Slot). with_items [] (shown_slot runs L s)) passed ∙ (empty_shown runs n t.0 (L n) ∙ ap (λ (s : Slot). handed_over (shown_slot runs L s)) (sym passed))))
