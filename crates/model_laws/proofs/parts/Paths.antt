-- Paths of a pool map in which pools stand right under the root.
use Rattle.std.proofs.Common.{◌≡◌, ◌≢◌, ℕ, Bool, true, false, ◌||◌, not, ◌==◌, cond, List, [], ◌∷◌, inl, inr, refl, sym, ◌∙◌, ap, eqb-true}
use Rattle.std.proofs.lemmas.Bool.{cases_Bool, or_cases, or_right, both_ways, false_from_ne_true}
use Rattle.run_model.specs.Pools.{Pools, is_empty, is_in, is_live, is_under, no_cleanups}
use Rattle.run_model.specs.RunOrder.{IsPoolMap}
use Rattle.model_laws.specs.Parts.{is_top, belongs, part, HasPart}
use Rattle.run_model.proofs.RunOrderLaws.{under_itself}
use Rattle.run_model.proofs.Formed.{path_live}

in_trans : {T : Type 0} (ps : Pools T) → IsPoolMap ps → (c p : ℕ) → is_in c (ps.path p) ≡ true → (xs : List ℕ) (n : ℕ) → ps.path n ≡ xs → is_in p xs ≡ true → is_in c xs ≡ true
in_trans ps f c p up [] n is inside = absurd (cc)
in_trans ps f c p up (m ∷ []) n is inside = elim (or_cases (m == p) false inside) [
  | inl e ↦ (let at : n ≡ p = sym (f.first n m [] is) ∙ eqb-true m p e in ap (is_in c) (sym is ∙ ap ps.path at) ∙ up)
  | inr e ↦ absurd (cc)
]
in_trans ps f c p up (m ∷ k ∷ above) n is inside = elim (or_cases (m == p) (is_in p (k ∷ above)) inside) [
  | inl e ↦ (let at : n ≡ p = sym (f.first n m (k ∷ above) is) ∙ eqb-true m p e in ap (is_in c) (sym is ∙ ap ps.path at) ∙ up)
  | inr e ↦ or_right (m == c) (is_in c (k ∷ above)) (in_trans ps f c p up (k ∷ above) k (f.closed n m k above is) e)
]

-- what stands under a pool under c stands under c
pub under_trans : {T : Type 0} (ps : Pools T) → IsPoolMap ps → (c p n : ℕ) → is_under ps c p ≡ true → is_under ps p n ≡ true → is_under ps c n ≡ true
unfolding is_under
under_trans ps f c p n up inside = in_trans ps f c p up (ps.path n) n refl inside

pub root_path : {T : Type 0} (ps : Pools T) (c : ℕ) (h : HasPart ps c) → ps.path h.root ≡ h.root ∷ []
root_path ps c h = h.formed.closed c c h.root [] h.top

pub part_under : {T : Type 0} (ps : Pools T) (c : ℕ) → HasPart ps c → is_under ps c c ≡ true
part_under ps c h = under_itself ps h.formed c (path_live ps c c (h.root ∷ []) h.top)

-- the pools of a path right under the root are itself and the root
only_top : {T : Type 0} (ps : Pools T) (c d : ℕ) → HasPart ps c → HasPart ps d → (n : ℕ) (xs : List ℕ) → ps.path n ≡ xs → n ≡ c → is_in d xs ≡ true → c ≡ d
only_top ps c d hc hd n xs is at inside =
    let there : is_in d (c ∷ hc.root ∷ []) ≡ true = ap (is_in d) (sym hc.top ∙ (sym (ap ps.path at) ∙ is)) ∙ inside in
    elim (or_cases (c == d) (is_in d (hc.root ∷ [])) there) [
      | inl e ↦ eqb-true c d e
      | inr e ↦ (elim (or_cases (hc.root == d) false e) [
        | inl same ↦ absurd (let both : (hc.root ∷ []) ≡ (d ∷ hd.root ∷ []) = sym (root_path ps c hc) ∙ (ap ps.path (eqb-true hc.root d same) ∙ hd.top) in cc)
        | inr never ↦ absurd (cc)
      ])
    ]

one_in : {T : Type 0} (ps : Pools T) (c d : ℕ) → HasPart ps c → HasPart ps d → (xs : List ℕ) (n : ℕ) → ps.path n ≡ xs → is_in c xs ≡ true → is_in d xs ≡ true → c ≡ d
one_in ps c d hc hd [] n is ic id = absurd (cc)
one_in ps c d hc hd (m ∷ []) n is ic id = elim (or_cases (m == c) false ic) [
  | inl e ↦ only_top ps c d hc hd n (m ∷ []) is (sym (hc.formed.first n m [] is) ∙ eqb-true m c e) id
  | inr e ↦ absurd (cc)
]
one_in ps c d hc hd (m ∷ k ∷ above) n is ic id = elim (or_cases (m == c) (is_in c (k ∷ above)) ic) [
  | inl e ↦ only_top ps c d hc hd n (m ∷ k ∷ above) is (sym (hc.formed.first n m (k ∷ above) is) ∙ eqb-true m c e) id
  | inr further ↦ (elim (or_cases (m == d) (is_in d (k ∷ above)) id) [
    | inl e ↦ sym (only_top ps d c hd hc n (m ∷ k ∷ above) is (sym (hc.formed.first n m (k ∷ above) is) ∙ eqb-true m d e) ic)
    | inr e ↦ one_in ps c d hc hd (k ∷ above) k (hc.formed.closed n m k above is) further e
  ])
]

-- No pool stands under two pools that are right under the root.
pub apart_under : {T : Type 0} (ps : Pools T) (c d n : ℕ) → HasPart ps c → HasPart ps d → c ≢ d → is_under ps c n ≡ true → is_under ps d n ≡ false
unfolding is_under
apart_under ps c d n hc hd ne under = false_from_ne_true (is_in d (ps.path n)) (λ too. ne (one_in ps c d hc hd (ps.path n) n refl under too))

pub top_path : (xs : List ℕ) → is_top xs ≡ true → (m : ℕ) × (xs ≡ m ∷ [])
top_path [] top = absurd (cc)
top_path (m ∷ []) top = (m, refl)
top_path (m ∷ k ∷ above) top = absurd (cc)

-- The root stands under none of them.
pub top_apart : {T : Type 0} (ps : Pools T) (c n : ℕ) → HasPart ps c → is_under ps c n ≡ true → is_top (ps.path n) ≡ false
unfolding is_under
top_apart ps c n h under = false_from_ne_true (is_top (ps.path n)) (λ top.
    let alone = top_path (ps.path n) top in
    let there : is_in c (alone.0 ∷ []) ≡ true = ap (is_in c) (sym alone.1) ∙ under in
    elim (or_cases (alone.0 == c) false there) [
      | inl e ↦ (let at : n ≡ c = sym (h.formed.first n alone.0 [] alone.1) ∙ eqb-true alone.0 c e in
          let both : (alone.0 ∷ []) ≡ (c ∷ h.root ∷ []) = sym alone.1 ∙ (ap ps.path at ∙ h.top) in cc)
      | inr never ↦ absurd (cc)
    ])

pub root_off : {T : Type 0} (ps : Pools T) (c p : ℕ) (h : HasPart ps c) → is_under ps c p ≡ true → is_under ps p h.root ≡ false
unfolding is_under
root_off ps c p h under = false_from_ne_true (is_under ps p h.root) (λ up.
    both_ways (is_top (ps.path h.root)) (top_apart ps c h.root h (under_trans ps h.formed c p h.root under up)) (ap is_top (root_path ps c h)))

-- What is in the part.

pub under_belongs : {T : Type 0} (ps : Pools T) (c n : ℕ) → is_under ps c n ≡ true → belongs c (ps.path n) ≡ true
unfolding is_under
under_belongs ps c n under = or_right (is_top (ps.path n)) (is_in c (ps.path n)) under

none_of : (x y : Bool) → x ≡ false → y ≡ false → (x || y) ≡ false
none_of true y h k = absurd (cc)
none_of false y h k = k

pub off_belongs : {T : Type 0} (ps : Pools T) (c d n : ℕ) → HasPart ps c → HasPart ps d → c ≢ d → is_under ps c n ≡ true → belongs d (ps.path n) ≡ false
unfolding is_under
off_belongs ps c d n hc hd ne under = none_of (is_top (ps.path n)) (is_in d (ps.path n)) (top_apart ps c n hc under) (apart_under ps c d n hc hd ne under)

-- what is under a pool of the part is in the part
pub below_belongs : {T : Type 0} (ps : Pools T) (c p n : ℕ) → HasPart ps c → is_under ps c p ≡ true → is_under ps p n ≡ true → belongs c (ps.path n) ≡ true
below_belongs ps c p n h under up = under_belongs ps c n (under_trans ps h.formed c p n under up)

-- a pool of the part reads as in the whole
pub part_path : {T : Type 0} (ps : Pools T) (c n : ℕ) → belongs c (ps.path n) ≡ true → (part c ps).path n ≡ ps.path n
unfolding part
part_path ps c n here = ap (λ b. cond b (ps.path n) []) here

pub part_payloads : {T : Type 0} (ps : Pools T) (c n : ℕ) → belongs c (ps.path n) ≡ true → (part c ps).payloads n ≡ ps.payloads n
unfolding part
part_payloads ps c n here = ap (λ b. cond b (ps.payloads n) no_cleanups) here

pub part_off : {T : Type 0} (ps : Pools T) (c n : ℕ) → belongs c (ps.path n) ≡ false → ((part c ps).path n ≡ []) × ((part c ps).payloads n ≡ no_cleanups)
unfolding part
part_off ps c n off = (ap (λ b. cond b (ps.path n) []) off, ap (λ b. cond b (ps.payloads n) no_cleanups) off)

pub under_alike : {T : Type 0} (ps : Pools T) (c p n : ℕ) → HasPart ps c → is_under ps c p ≡ true → is_under (part c ps) p n ≡ is_under ps p n
unfolding is_under
under_alike ps c p n h under = elim (cases_Bool (belongs c (ps.path n))) [
  | inl here ↦ ap (is_in p) (part_path ps c n here)
  | inr off ↦ ap (is_in p) (part_off ps c n off).0 ∙ sym (false_from_ne_true (is_in p (ps.path n)) (λ up. both_ways (belongs c (ps.path n)) off (below_belongs ps c p n h under up)))
]

pub above_alike : {T : Type 0} (ps : Pools T) (c p n : ℕ) → is_under ps c p ≡ true → is_under (part c ps) n p ≡ is_under ps n p
unfolding is_under
above_alike ps c p n under = ap (is_in n) (part_path ps c p (under_belongs ps c p under))

pub live_alike : {T : Type 0} (ps : Pools T) (c n : ℕ) → belongs c (ps.path n) ≡ true → is_live (part c ps) n ≡ is_live ps n
unfolding is_live
live_alike ps c n here = ap (λ (path : List ℕ). not (is_empty path)) (part_path ps c n here)

pub under_live : {T : Type 0} (ps : Pools T) (c p : ℕ) → is_under ps c p ≡ true → is_live ps p ≡ true
unfolding is_under is_live
under_live ps c p under = by_path (ps.path p) under where
  by_path : (xs : List ℕ) → is_in c xs ≡ true → not (is_empty xs) ≡ true
  by_path [] inside = absurd (cc)
  by_path (m ∷ xs) inside = refl
