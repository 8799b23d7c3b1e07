-- The brigade that came in ends: no other variable names it.
use Rattle.std.proofs.Common.{◌≡◌, ◌≢◌, ◌==◌, ℕ, Bool, Option, Some, None, sym, ap, ◌∙◌, inl, inr}
use Rattle.std.specs.Prelude.{if◌then◌else◌}
use Rattle.std.proofs.lemmas.Bool.{cases_eq, eq-eqb, ne_eqb}
use Rattle.bucket_ring.specs.Lists as ring
use Rattle.bucket_store.specs.Items.{Items}
use Rattle.interp_state.specs.declared.machine.Instance.{Instance}
use Rattle.interp_state.specs.declared.machine.Slot.TheVariants as slot
use Rattle.interp_state.specs.Held.{VariablesApart}
use Rattle.interp_state.specs.Slots.{name_in, slot_at}
use Rattle.interp_state.proofs.Changes.{ring_off}
use Rattle.module_run.proofs.ReturnedParts.{AreAsWere}

pub named_first : (a b : ℕ) → Some a ≡ Some b → a ≡ b
named_first a b e = cc

-- what a variable names of an instance whose `in` is null now
pub named_still : (i new : Instance) → ((a : ℕ) → slot_at new a ≡ (if a == 8 then slot.Null else slot_at i a)) → (b n : ℕ) → name_in (slot_at new b) ≡ Some n → (b ≢ 8)
    × (name_in (slot_at i b) ≡ Some n)
named_still i new nulled b n is = elim (cases_eq b 8) [
  | inl e ↦ absurd (let x : None ≡ Some n = sym (ap name_in (nulled b ∙ ap (λ (t : Bool). if t then slot.Null else slot_at i b) (eq-eqb b 8 e))) ∙ is in cc)
  | inr ne ↦ (ne, sym (ap name_in (nulled b ∙ ap (λ (t : Bool). if t then slot.Null else slot_at i b) (ne_eqb b 8 ne))) ∙ is)
]

pub held_off : (L M : ℕ → Option Items) (i new : Instance) (m : ℕ) → VariablesApart i → name_in (slot_at i 8) ≡ Some m → ((a : ℕ) → slot_at new a ≡ (if a == 8 then slot.Null else slot_at i a))
    → ((n : ℕ) → M n ≡ ring.upd L m None n) → AreAsWere L M new
held_off L M i new m apart named nulled over b n is =
    let was = named_still i new nulled b n is in
    over n ∙ ring_off L m n None (λ e. was.0 (apart b 8 n was.1 (named ∙ ap (λ (k : ℕ). Some k) (sym e))))
