-- Names that are pushed onto a list of names.
use Rattle.std.proofs.Common.{◌≡◌, ◌⊎◌, ◌==◌, ℕ, zero, suc, ◌+◌, ◌<◌, Bool, true, false, ◌||◌, List, [], ◌∷◌, ◌++◌, length, Some, None, Option, refl, sym, ap, ◌∙◌, arith, inl, inr, eqb-true}
use Rattle.std.specs.Prelude.{slice_index_or, slice_get}
use Rattle.std.proofs.lemmas.Bool.{cases_eq, eq-eqb, or_cases, or_left, or_right}
use Rattle.std.proofs.lemmas.Option.{get_or_from_slice_get}
use Rattle.run_model.specs.declared.bucket.Mark.{Mark}
use Rattle.run_model.specs.Pools.{is_in}
use Rattle.interp_state.specs.declared.machine.Slot.{Slot}
use Rattle.interp_state.specs.declared.machine.Slot.TheVariants as slot
use Rattle.interp_state.specs.Slots.{name_in}

or_more : (a b c : Bool) → (b ≡ true → c ≡ true) → (a || b) ≡ true → (a || c) ≡ true
or_more true b c more e = refl
or_more false b c more e = more e

-- those that were there are there,
pub pushed_kept : (n x : ℕ) (xs : List ℕ) → is_in n xs ≡ true → is_in n (xs ++ x ∷ []) ≡ true
pushed_kept n x [] e = absurd (cc)
pushed_kept n x (y ∷ ys) e = or_more (y == n) (is_in n ys) (is_in n (ys ++ x ∷ [])) (pushed_kept n x ys) e

-- and so is the new one
pub pushed_in : (n x : ℕ) (xs : List ℕ) → x ≡ n → is_in n (xs ++ x ∷ []) ≡ true
pushed_in n x [] e = or_left (x == n) false (eq-eqb x n e)
pushed_in n x (y ∷ ys) e = or_right (y == n) (is_in n (ys ++ x ∷ [])) (pushed_in n x ys e)

-- and no others
pub pushed_only : (n x : ℕ) (xs : List ℕ) → is_in n (xs ++ x ∷ []) ≡ true → (is_in n xs ≡ true) ⊎ (x ≡ n)
pushed_only n x [] e = elim (or_cases (x == n) false e) [ inl here ↦ inr (eqb-true x n here) | inr never ↦ absurd (cc) ]
pushed_only n x (y ∷ ys) e = elim (or_cases (y == n) (is_in n (ys ++ x ∷ [])) e) [
  | inl here ↦ inl (or_left (y == n) (is_in n ys) here)
  | inr later ↦ elim (pushed_only n x ys later) [
    | inl old ↦ inl (or_right (y == n) (is_in n ys) old)
    | inr new ↦ inr new
  ]
]

-- a variable that names a brigade is one of these
pub slot_within : (slots : List Slot) (b n : ℕ) → name_in (slice_index_or slots b slot.Null) ≡ Some n → b < length slots
slot_within [] b n e = absurd (cc)
slot_within (s ∷ ss) zero n e = omega arith
slot_within (s ∷ ss) (suc b) n e = (let h = slot_within ss b n e in omega (arith, h))

-- one more variable
abbrev pub AreIn : List Slot → ℕ → List ℕ → Type 0
AreIn slots k xs = (b n : ℕ) → b < k → name_in (slice_index_or slots b slot.Null) ≡ Some n → is_in n xs ≡ true

pub slots_pushed : (slots : List Slot) (k x : ℕ) (pool : Option ℕ) (mark : Mark) (xs ys : List ℕ) → slice_index_or slots k slot.Null ≡ slot.Made x pool mark → ys ≡ xs ++ x ∷ [] → AreIn slots k xs
    → AreIn slots (k + 1) ys
slots_pushed slots k x pool mark xs ys is now before b n lt e = elim (cases_eq b k) [
  | inl here ↦ (let same : Some x ≡ Some n = sym (ap name_in (ap (λ (j : ℕ). slice_index_or slots j slot.Null) here ∙ is)) ∙ e in ap (is_in n) now ∙ pushed_in n x xs (let q : x ≡ n = cc in q))
  | inr ne ↦ ap (is_in n) now ∙ pushed_kept n x xs (before b n (omega (arith, ne, lt)) e)
]

pub slots_null : (slots : List Slot) (k : ℕ) (xs : List ℕ) → slice_index_or slots k slot.Null ≡ slot.Null → AreIn slots k xs → AreIn slots (k + 1) xs
slots_null slots k xs is before b n lt e = elim (cases_eq b k) [
  | inl here ↦ absurd (let same : None ≡ Some n = sym (ap name_in (ap (λ (j : ℕ). slice_index_or slots j slot.Null) here ∙ is)) ∙ e in cc)
  | inr ne ↦ before b n (omega (arith, ne, lt)) e
]

-- the item at a place
pub item_is : {X : Type 0} (xs : List X) (k : ℕ) (x y : X) → y ≡ slice_index_or xs k y → slice_get xs k ≡ Some x → y ≡ x
item_is xs k x y is there = is ∙ get_or_from_slice_get xs k x y there
