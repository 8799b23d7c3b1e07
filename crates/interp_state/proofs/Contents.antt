-- What is wanted of all buckets of a brigade is told by its list in the store.
use Rattle.std.proofs.Common.{◌≡◌, ℕ, zero, suc, Bool, true, false, cond, Option, Some, None, is_some, refl, sym, ap, ◌∙◌}
use Rattle.run_model.specs.declared.fault.FaultKind.TheVariants.{F8}
use Rattle.run_model.specs.declared.bucket.Mark.TheVariants.{Usable, Passed}
use Rattle.run_model.specs.declared.bucket.Mark.{Mark}
use Rattle.std.specs.Prelude.{[]}
use Rattle.std.proofs.lemmas.Bool.{false≢true}
use Rattle.std.specs.Option.{option_map_or}
use Rattle.std.specs.List.{list_any}
use Rattle.run_model.specs.State.{items_of, Configuration}
use Rattle.run_model.specs.Faults.{homes_fault, send_fault, home_fault, keeps_stray, is_stray}
use Rattle.run_model.specs.BrigadeLists.{bucket_across}
use Rattle.module_code.specs.declared.instr.Value.{Value}
use Rattle.run_model.specs.Effects.{value_of}
use Rattle.bucket_store.specs.Items.{Items}
use Rattle.interp_state.specs.declared.machine.Instance.{Instance}
use Rattle.interp_state.specs.declared.machine.Call.{Call}
use Rattle.interp_state.specs.declared.machine.Slot.{Slot}
use Rattle.interp_state.specs.declared.machine.Slot.TheVariants as slot
use Rattle.interp_state.specs.ContextViews.{ContextView}
use Rattle.interp_state.specs.Contents.{contents}
use Rattle.interp_state.specs.Tests.{late_data}
use Rattle.interp_state.proofs.LateData.{late_data_is}
use Rattle.bucket_ring.specs.Lists.{list_at}
use Rattle.interp_state.specs.Seen.{seen_over, calls_in, shown, shown_as, shown_slot}
use Rattle.interp_state.specs.Slots.{slot_at, live_in}

pub items_told : (runs : ℕ → Bool) (L : ℕ → Option Items) (s : Slot) → contents runs L (live_in L s) ≡ items_of (shown_slot runs L s)
items_told runs L slot.Null = refl
items_told runs L (slot.Made n pool mark) = go (L n) refl where
  go : (o : Option Items) → L n ≡ o → contents runs L (live_in (λ (m : ℕ). o) (slot.Made n pool mark)) ≡ items_of (shown_as runs n pool mark o)
  go None e = refl
  go (Some xs) e = ap (λ (z : Option Items). shown runs (option_map_or (λ bs. bs) z [])) e

pub none_across : (point : ℕ) → bucket_across point [] ≡ None
unfolding bucket_across
none_across zero = refl
none_across (suc p) = refl

module _ (L : ℕ → Option Items) (k : ℕ) (view : ContextView) (i : Instance) (call : Call) (b : ℕ) where
  pub homes_told : homes_fault (contents (calls_in view call) L (live_in L (slot_at i b))) ≡ homes_fault (items_of ((seen_over L k view i call).instance.brigades b))
  unfolding seen_over
  homes_told = ap homes_fault (items_told (calls_in view call) L (slot_at i b))

  pub across_told : (x : Value) → home_fault (bucket_across (value_of (seen_over L k view i call) x) (contents (calls_in view call) L (live_in L (slot_at i b))))
      ≡ home_fault (bucket_across (value_of (seen_over L k view i call) x) (items_of ((seen_over L k view i call).instance.brigades b)))
  unfolding seen_over
  across_told x = ap (λ items. home_fault (bucket_across (value_of (seen_over L k view i call) x) items)) (items_told (calls_in view call) L (slot_at i b))

  pub send_told : cond (late_data i.sent (contents (calls_in view call) L (live_in L (slot_at i b)))) (Some F8) None
      ≡ send_fault (seen_over L k view i call).instance.sent (items_of ((seen_over L k view i call).instance.brigades b))
  unfolding seen_over
  send_told = ap (λ t. cond t (Some F8) None) (late_data_is i.sent (contents (calls_in view call) L (live_in L (slot_at i b))))
      ∙ ap (send_fault i.sent) (items_told (calls_in view call) L (slot_at i b))

-- What a return asks of a variable: where a usable brigade is there, where none is, where it was passed.
pub stray_null : (r : Configuration) (runs : ℕ → Bool) (L : ℕ → Option Items) (s : Slot) → s ≡ slot.Null → false ≡ keeps_stray r (shown_slot runs L s)
unfolding keeps_stray
stray_null r runs L s e = ap (λ z. keeps_stray r (shown_slot runs L z)) (sym e)

module _ (r : Configuration) (runs : ℕ → Bool) (L : ℕ → Option Items) (s : Slot) (n : ℕ) (pool : Option ℕ) where
  pub stray_there : s ≡ slot.Made n pool Usable → is_some (L n) ≡ true → list_any (λ b. is_stray r b.bucket.home) (shown runs (list_at L n)) ≡ keeps_stray r (shown_slot runs L s)
  unfolding keeps_stray
  stray_there e there = go (L n) refl there ∙ ap (λ z. keeps_stray r (shown_slot runs L z)) (sym e) where
    go : (o : Option Items) → L n ≡ o → is_some o ≡ true → list_any (λ b. is_stray r b.bucket.home) (shown runs (list_at L n)) ≡ keeps_stray r (shown_as runs n pool Usable o)
    go None q there = absurd (false≢true there)
    go (Some xs) q there = ap (λ (z : Option Items). list_any (λ b. is_stray r b.bucket.home) (shown runs (option_map_or (λ bs. bs) z []))) q

  pub stray_gone : (mark : Mark) → s ≡ slot.Made n pool mark → is_some (L n) ≡ false → false ≡ keeps_stray r (shown_slot runs L s)
  unfolding keeps_stray
  stray_gone mark e gone = go (L n) gone ∙ ap (λ z. keeps_stray r (shown_slot runs L z)) (sym e) where
    go : (o : Option Items) → is_some o ≡ false → false ≡ keeps_stray r (shown_as runs n pool mark o)
    go None q = refl
    go (Some xs) q = absurd (false≢true (sym q))

  pub stray_passed : s ≡ slot.Made n pool Passed → false ≡ keeps_stray r (shown_slot runs L s)
  unfolding keeps_stray
  stray_passed e = go (L n) ∙ ap (λ z. keeps_stray r (shown_slot runs L z)) (sym e) where
    go : (o : Option Items) → false ≡ keeps_stray r (shown_as runs n pool Passed o)
    go None = refl
    go (Some xs) = refl
