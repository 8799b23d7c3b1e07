-- Passed brigades are not used before they are cleaned.
use Rattle.std.proofs.Common.{◌≡◌, ℕ, Bool, true, false, ◌||◌, ◌⊎◌, inl, inr, List, [], ◌∷◌, Option, Some, None, refl, sym, ◌∙◌, ap, subst, eqb-true}
use Rattle.std.specs.List.{list_any}
use Rattle.run_model.specs.declared.fault.FaultKind.{FaultKind}
use Rattle.run_model.specs.declared.bucket.BrigadeVar.{BrigadeVar}
use Rattle.run_model.specs.declared.bucket.BrigadeVar.TheVariants as var
use Rattle.run_model.specs.declared.bucket.NamedBucket.{NamedBucket}
use Rattle.run_model.specs.BrigadeLists.{buckets_from, bucket_named}
use Rattle.run_model.specs.Sound.{brigade_name}
use Rattle.run_model.specs.State.{Configuration, items_of, set_brigade}
use Rattle.run_model.specs.Cursors.{CursorPlace, Nowhere, AtLoose, Within, AtEndOf, at_cursor}
use Rattle.run_model.specs.Faults.{Want, WUsable, WCursor, Need, wants, brigade_fault, usable_fault, passed_fault, cursor_fault, fault_want, first_fault, or_else}
use Rattle.run_model.specs.Steps.{do_pass, cleaned, handed_over}
use Rattle.model_laws.specs.Marks.{is_at, wants_use, UseAfterPassFaults, CleanedIsUsable}
use Rattle.run_model.proofs.Updates.{upd_at}
use Rattle.run_model.proofs.CursorPlaces.{StandsThere, stands}

pub first_none : (a b : Option FaultKind) → or_else a b ≡ None → a ≡ None
first_none None b e = refl
first_none (Some k) b e = e

pub second_none : (a b : Option FaultKind) → or_else a b ≡ None → b ≡ None
second_none None b e = e
second_none (Some k) b e = absurd (cc)

pub one_of : (x y : Bool) → (x || y) ≡ true → (x ≡ true) ⊎ (y ≡ true)
one_of true y h = inl refl
one_of false y h = inr h

-- Uses of a brigade that is not usable.

-- A variable holds a brigade.
abbrev IsThere : BrigadeVar → Type 0
IsThere var.Null = ⊥
IsThere var.Gone = ⊥
IsThere (var.Live v) = Unit {0}

filled : (n : ℕ) (x : NamedBucket) (v : BrigadeVar) → bucket_named n (items_of v) ≡ Some x → IsThere v
unfolding buckets_from
filled n x var.Null h = absurd (cc)
filled n x var.Gone h = absurd (cc)
filled n x (var.Live v) h = tt

called : (n : ℕ) (v : BrigadeVar) → brigade_name v ≡ Some n → IsThere v
called n var.Null h = absurd (cc)
called n var.Gone h = absurd (cc)
called n (var.Live v) h = tt

-- what a cursor stands at, or at the end of, is a brigade
at_brigade : (r : Configuration) (k : ℕ) (s : CursorPlace) → StandsThere r s → is_at s k ≡ true → IsThere (r.instance.brigades k)
at_brigade r k Nowhere there h = absurd (cc)
at_brigade r k (AtLoose x) there h = absurd (cc)
at_brigade r k (Within b x) there h = subst (λ (j : ℕ). IsThere (r.instance.brigades j)) (sym (eqb-true k b h)) (filled x.name x (r.instance.brigades b) there.1)
at_brigade r k (AtEndOf b) there h = subst (λ (j : ℕ). IsThere (r.instance.brigades j)) (sym (eqb-true k b h)) (called there.1.0 (r.instance.brigades b) there.1.1)

-- where there is a brigade, it was passed exactly where it is not usable
there_none : (v : BrigadeVar) → IsThere v → passed_fault v ≡ None → usable_fault v ≡ None
there_none var.Null there none = absurd there
there_none var.Gone there none = absurd there
there_none (var.Live v) there none = none

cursor_unmet : (r : Configuration) (f : Need) (k : ℕ) (s : CursorPlace) → IsThere (r.instance.brigades k) → (usable_fault (r.instance.brigades k) ≡ None → ⊥) → is_at s k ≡ true
    → cursor_fault r f s ≡ None → ⊥
unfolding cursor_fault
cursor_unmet r f k Nowhere there no_use h none = cc
cursor_unmet r f k (AtLoose x) there no_use h none = cc
cursor_unmet r f k (Within b x) there no_use h none =
    no_use (there_none (r.instance.brigades k) there (ap (λ (j : ℕ). passed_fault (r.instance.brigades j)) (eqb-true k b h) ∙ first_none (passed_fault (r.instance.brigades b)) _ none))
cursor_unmet r f k (AtEndOf b) there no_use h none =
    no_use (there_none (r.instance.brigades k) there (ap (λ (j : ℕ). passed_fault (r.instance.brigades j)) (eqb-true k b h) ∙ first_none (passed_fault (r.instance.brigades b)) _ none))

use_unmet : (r : Configuration) (k : ℕ) (w : Want) → (usable_fault (r.instance.brigades k) ≡ None → ⊥) → wants_use r k w ≡ true → fault_want r w ≡ None → ⊥
use_unmet r k (WUsable b) no_use h none = no_use (ap (λ (j : ℕ). usable_fault (r.instance.brigades j)) (eqb-true k b h) ∙ none)
use_unmet r k (WCursor c f) no_use h none = cursor_unmet r f k (at_cursor r c) (at_brigade r k (at_cursor r c) (stands r (r.call.cursors c)) h) no_use h none
use_unmet r k w no_use h none = absurd (cc)

-- an instruction that uses it has a fault
pub uses_unmet : (r : Configuration) (k : ℕ) (ws : List Want) → (usable_fault (r.instance.brigades k) ≡ None → ⊥) → list_any (wants_use r k) ws ≡ true → first_fault r ws ≡ None → ⊥
uses_unmet r k [] no_use h none = absurd (cc)
uses_unmet r k (w ∷ ws) no_use h none = elim (one_of (wants_use r k w) (list_any (wants_use r k) ws) h) [
  | inl this ↦ use_unmet r k w no_use this (first_none (fault_want r w) (first_fault r ws) none)
  | inr later ↦ uses_unmet r k ws no_use later (second_none (fault_want r w) (first_fault r ws) none)
]

handed_fault : (v : BrigadeVar) → usable_fault (handed_over v) ≡ None → ⊥
handed_fault var.Null e = cc
handed_fault var.Gone e = cc
handed_fault (var.Live v) e = cc

pub use_after_pass : UseAfterPassFaults
unfolding set_brigade
use_after_pass p choice b l r i used none =
    uses_unmet (do_pass b r) b (wants p i) (λ e. handed_fault (r.instance.brigades b) (sym (ap usable_fault (upd_at r.instance.brigades b (handed_over (r.instance.brigades b)))) ∙ e)) used none

cleaned_usable : (v : BrigadeVar) → brigade_fault v ≡ None → usable_fault (cleaned v) ≡ None
cleaned_usable var.Null e = e
cleaned_usable var.Gone e = e
cleaned_usable (var.Live v) e = refl

cleaned_none : (v : BrigadeVar) → items_of (cleaned v) ≡ []
cleaned_none var.Null = refl
cleaned_none var.Gone = refl
cleaned_none (var.Live v) = refl

pub cleaned_is_usable : CleanedIsUsable
unfolding set_brigade
cleaned_is_usable p choice b r none =
    let written = upd_at r.instance.brigades b (cleaned (r.instance.brigades b)) in
    (ap usable_fault written ∙ cleaned_usable (r.instance.brigades b) (first_none (brigade_fault (r.instance.brigades b)) None none), ap items_of written ∙ cleaned_none (r.instance.brigades b))
