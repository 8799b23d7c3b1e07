-- A number that is kept at 2^32 once it passes that.
use Rattle.std.proofs.Common.{◌≡◌, ℕ, ◌+◌, ◌*◌, ◌<◌, ◌≤◌, Bool, true, cond, ltb, min, List, [], ◌∷◌, length, get_or, drop, Option, Some, None, inl, inr, sym, ◌∙◌, ap, arith, zero, suc}
use Rattle.std.specs.Char.{digit_value}
use Rattle.std.specs.List.{list_all}
use Rattle.std.specs.Str.Parse.{digits_value_after}
use Rattle.std.proofs.Math.Nat.{mul-le-mul_left}
use Rattle.std.proofs.lemmas.Bool.{and_parts, cases_lt, lt-ltb, le-ltb}
use Rattle.byte_text.proofs.ListLaws.{drop_here}

-- more digits make no number less
value_more : (base n : ℕ) (cs : List ℕ) → 1 ≤ base → n ≤ digits_value_after base n cs
value_more base n [] h = omega arith
value_more base n (c ∷ cs) h =
    let k = mul-le-mul_left n h in
    let m = value_more base (n * base + digit_value c) cs h in
    omega (arith, k, m)

capped : (base x most : ℕ) (cs : List ℕ) → 1 ≤ base → min (digits_value_after base (min x most) cs) most ≡ min (digits_value_after base x cs) most
capped base x most cs h =
    elim (cases_lt most x) [
      | inl lt ↦
          (let e : min x most ≡ most = omega arith in
          let a = value_more base (min x most) cs h in
          let b = value_more base x cs h in
          omega (arith, a, b, e))
      | inr le ↦ let e : min x most ≡ x = omega arith in ap (λ n. min (digits_value_after base n cs) most) e
    ]

-- one digit more
pub capped_more : (base value digit next most i : ℕ) (ds : List ℕ) → 1 ≤ base → i < length ds → digit ≡ digit_value (get_or ds i 0) → next ≡ min (value * base + digit) most
    → min (digits_value_after base next (drop (i + 1) ds)) most ≡ min (digits_value_after base value (drop i ds)) most
capped_more base value digit next most i ds h lt d e =
    ap (λ n. min (digits_value_after base n (drop (i + 1) ds)) most) (e ∙ ap (λ x. min (value * base + x) most) d)
    ∙ capped base (value * base + digit_value (get_or ds i 0)) most (drop (i + 1) ds) h
    ∙ ap (λ cs. min (digits_value_after base value cs) most) (sym (drop_here ds i 0 lt))

-- each item of a list
pub all_at : (p : ℕ → Bool) (xs : List ℕ) (i : ℕ) → list_all p xs ≡ true → i < length xs → p (get_or xs i 0) ≡ true
all_at p [] i a lt = absurd (omega arith)
all_at p (x ∷ xs) zero a lt = (and_parts (p x) (list_all p xs) a).0
all_at p (x ∷ xs) (suc i) a lt = all_at p xs i (and_parts (p x) (list_all p xs) a).1 (omega arith)

-- what is kept says whether the number is below 2^32
pub below_most : (value whole most : ℕ) → min value most ≡ min whole most → cond (ltb value most) (Some value) None ≡ cond (ltb whole most) (Some whole) None
below_most value whole most e =
    elim (cases_lt whole most) [
      | inl lt ↦ let k : value ≡ whole = omega (arith, e, lt) in ap (λ n. cond (ltb n most) (Some n) None) k
      | inr le ↦
          (let a : most ≤ value = omega (arith, e, le) in
          ap (λ b. cond b (Some value) None) (le-ltb value most a) ∙ sym (ap (λ b. cond b (Some whole) None) (le-ltb whole most le)))
    ]
