-- How often a number stands in a list, and how long a list of different numbers is at most.
use Rattle.std.proofs.Common.{◌≡◌, ◌≢◌, ℕ, zero, suc, ◌+◌, ◌<◌, ◌≤◌, ◌==◌, Bool, true, false, if◌then◌else◌, List, [], ◌∷◌, length, refl, ap, ◌∙◌, arith, inl, inr}
use Rattle.std.proofs.lemmas.Bool.{cases_eq, eq-eqb, ne_eqb}
use Rattle.raw_nodes.specs.Free.{walk, count}

pub count_here : (k : ℕ) (ks : List ℕ) → count k (k ∷ ks) ≡ suc (count k ks)
count_here k ks = rw (eq-eqb k k refl) refl

pub count_past : (j k : ℕ) (ks : List ℕ) → j ≢ k → count k (j ∷ ks) ≡ count k ks
count_past j k ks ne = rw (ne_eqb j k ne) refl

pub count_fewer : (j k : ℕ) (ks : List ℕ) → count k ks ≤ count k (j ∷ ks)
count_fewer j k ks = go (j == k) where
  go : (b : Bool) → count k ks ≤ (if b then suc (count k ks) else count k ks)
  go true = omega arith
  go false = omega arith

-- a list without a number
abbrev less : ℕ → List ℕ → List ℕ
less k [] = []
less k (j ∷ js) = if j == k then less k js else j ∷ less k js

less_length : (k : ℕ) (ks : List ℕ) → length ks ≡ count k ks + length (less k ks)
less_length k [] = refl
less_length k (j ∷ js) = go (j == k) (less_length k js) where
  go : (b : Bool) → length js ≡ count k js + length (less k js) → suc (length js) ≡ (if b then suc (count k js) else count k js) + length (if b then less k js else j ∷ less k js)
  go true e = omega (arith, e)
  go false e = omega (arith, e)

less_count : (i k : ℕ) (ks : List ℕ) → count i (less k ks) ≤ count i ks
less_count i k [] = omega arith
less_count i k (j ∷ js) = go (j == k) (less_count i k js) where
  same : (b : Bool) → count i (less k js) ≤ count i js → (if b then suc (count i (less k js)) else count i (less k js)) ≤ (if b then suc (count i js) else count i js)
  same true e = omega (arith, e)
  same false e = e

  go : (b : Bool) → count i (less k js) ≤ count i js → count i (if b then less k js else j ∷ less k js) ≤ count i (j ∷ js)
  go true e = omega (arith, e, count_fewer j i js)
  go false e = same (j == i) e

less_none : (k : ℕ) (ks : List ℕ) → count k (less k ks) ≡ 0
less_none k [] = refl
less_none k (j ∷ js) =
    elim (cases_eq j k) [
      | inl e ↦ rw (eq-eqb j k e) (less_none k js)
      | inr ne ↦ rw (ne_eqb j k ne) (count_past j k (less k js) ne ∙ less_none k js)
    ]

-- different numbers below n are n at most
pub pigeons : (n : ℕ) (ks : List ℕ) → ((j : ℕ) → count j ks ≤ 1) → ((j : ℕ) → 0 < count j ks → j < n) → length ks ≤ n
pigeons zero [] once within = omega arith
pigeons zero (k ∷ ks) once within = absurd (omega (arith, within k (omega (arith, count_here k ks))))
pigeons (suc n) ks once within =
    let fewer : length (less n ks) ≤ n = pigeons n (less n ks) (λ j. omega (arith, once j, less_count j n ks)) (λ j some.
    let below : j < suc n = within j (omega (arith, some, less_count j n ks)) in
    elim (cases_eq j n) [
      | inl e ↦ absurd (omega (arith, some, ap (λ i. count i (less n ks)) e, less_none n ks))
      | inr ne ↦ omega (arith, below, ne)
    ]) in
    omega (arith, fewer, less_length n ks, once n)

pub walk_length : (f : ℕ → ℕ) (t n : ℕ) → length (walk f t n) ≡ n
walk_length f t zero = refl
walk_length f t (suc n) = ap suc (walk_length f (f t) n)

-- links that are the same where a walk goes
pub walk_same : (f g : ℕ → ℕ) (t n : ℕ) → ((j : ℕ) → 0 < count j (walk f t n) → g j ≡ f j) → walk g t n ≡ walk f t n
walk_same f g t zero same = refl
walk_same f g t (suc n) same =
    let here : g t ≡ f t = same t (omega (arith, count_here t (walk f (f t) n))) in
    ap (λ (i : ℕ). t ∷ walk g i n) here ∙ ap (λ (ks : List ℕ). t ∷ ks) (walk_same f g (f t) n (λ j some. same j (omega (arith, some, count_fewer t j (walk f (f t) n)))))
