-- Sums below a number: where the terms are the same or fewer, where one index is written, and against some of the terms.
use Rattle.std.proofs.Common.{◌≡◌, ◌≢◌, ℕ, zero, suc, ◌+◌, ◌<◌, ◌≤◌, inl, inr, refl, sym, ◌∙◌, ap, arith}
use Rattle.std.proofs.lemmas.Bool.{cases_lt}
use Rattle.run_model.specs.Indexed.{upd}
use Rattle.run_model.specs.Sound.{sum_below}
use Rattle.run_model.proofs.Updates.{upd_off, upd_either}

pub sum_below_same : (n : ℕ) (f g : ℕ → ℕ) → ((k : ℕ) → k < n → f k ≡ g k) → sum_below n f ≡ sum_below n g
unfolding sum_below
sum_below_same zero f g same = refl
sum_below_same (suc n) f g same =
    let here : f n ≡ g n = same n (omega arith) in
    let below : sum_below n f ≡ sum_below n g = sum_below_same n f g (λ k h. same k (omega arith)) in
    omega arith

pub sum_below_le : (n : ℕ) (f g : ℕ → ℕ) → ((k : ℕ) → f k ≤ g k) → sum_below n f ≤ sum_below n g
unfolding sum_below
sum_below_le zero f g le = omega arith
sum_below_le (suc n) f g le =
    let here : f n ≤ g n = le n in
    let below : sum_below n f ≤ sum_below n g = sum_below_le n f g le in
    omega arith

-- at an index that is written the new term stands for the old one
pub sum_below_upd : {X : Type 0} (n i : ℕ) (g : ℕ → X) (v : X) (f : X → ℕ) → i < n → sum_below n (λ k. f (upd g i v k)) + f (g i) ≡ sum_below n (λ k. f (g k)) + f v
unfolding sum_below
sum_below_upd zero i g v f h = absurd (omega arith)
sum_below_upd (suc n) i g v f h = elim (upd_either g i n v) [
  | inl p ↦
      (let off : sum_below n (λ k. f (upd g i v k)) ≡ sum_below n (λ k. f (g k)) =
      sum_below_same n (λ k. f (upd g i v k)) (λ k. f (g k)) (λ k lt. ap f (upd_off g i k v (λ e. absurd (omega (arith, e, p.0))))) in
      let new : f (upd g i v n) ≡ f v = ap f p.1 in
      let old : f (g n) ≡ f (g i) = ap (λ k. f (g k)) p.0 in
      omega arith)
  | inr p ↦
      (let less : i < n = omega (arith, λ (e : n ≡ i). p.0 e) in
      let below : sum_below n (λ k. f (upd g i v k)) + f (g i) ≡ sum_below n (λ k. f (g k)) + f v = sum_below_upd n i g v f less in
      let same : f (upd g i v n) ≡ f (g n) = ap f p.1 in
      omega arith)
]

-- one of the terms
pub term_below : (n i : ℕ) (f : ℕ → ℕ) → i < n → f i ≤ sum_below n f
unfolding sum_below
term_below zero i f lt = absurd (omega arith)
term_below (suc n) i f lt = elim (cases_lt i n) [
  | inl less ↦ (let below : f i ≤ sum_below n f = term_below n i f less in omega arith)
  | inr le ↦ (let is : i ≡ n = omega arith in let here : f i ≡ f n = ap f is in omega arith)
]

-- Two of the terms of a sum are together no more than it.
pub two_below : (n i j : ℕ) (f : ℕ → ℕ) → i < n → j < n → i ≢ j → f i + f j ≤ sum_below n f
unfolding sum_below
two_below zero i j f lt below ne = absurd (omega arith)
two_below (suc n) i j f lt below ne = elim (cases_lt i n) [
  | inl i_less ↦ elim (cases_lt j n) [
    | inl j_less ↦ (let rest : f i + f j ≤ sum_below n f = two_below n i j f i_less j_less ne in omega arith)
    | inr j_last ↦ (let is : j ≡ n = omega arith in let here : f j ≡ f n = ap f is in let rest : f i ≤ sum_below n f = term_below n i f i_less in omega arith)
  ]
  | inr i_last ↦ (let is : i ≡ n = omega arith in
      let here : f i ≡ f n = ap f is in
      let rest : f j ≤ sum_below n f = term_below n j f (omega (arith, λ (e : j ≡ n). ne (is ∙ sym e))) in
      omega arith)
]

-- where all terms are 0
pub all_none : (n : ℕ) (f : ℕ → ℕ) → ((k : ℕ) → k < n → f k ≡ 0) → sum_below n f ≡ 0
unfolding sum_below
all_none zero f none = refl
all_none (suc n) f none = (let rest : sum_below n f ≡ 0 = all_none n f (λ k lt. none k (omega arith)) in let here : f n ≡ 0 = none n (omega arith) in omega arith)

-- The terms at one index apart, against terms that are no fewer elsewhere.
pub sum_below_but : (n i : ℕ) (f g : ℕ → ℕ) → i < n → ((k : ℕ) → k ≢ i → g k ≤ f k) → sum_below n g + f i ≤ sum_below n f + g i
unfolding sum_below
sum_below_but zero i f g lt fewer = absurd (omega arith)
sum_below_but (suc n) i f g lt fewer = elim (cases_lt i n) [
  | inl less ↦
      (let here : g n ≤ f n = fewer n (λ e. absurd (omega (arith, e))) in
      let rest : sum_below n g + f i ≤ sum_below n f + g i = sum_below_but n i f g less fewer in
      omega arith)
  | inr le ↦
      (let is : i ≡ n = omega arith in
      let old : f i ≡ f n = ap f is in
      let new : g i ≡ g n = ap g is in
      let rest : sum_below n g ≤ sum_below n f = before n (λ k less. fewer k (λ e. absurd (omega (arith, e)))) in
      omega arith)
] where
  before : (m : ℕ) → ((k : ℕ) → k < m → g k ≤ f k) → sum_below m g ≤ sum_below m f
  before zero le = omega arith
  before (suc m) le = (let here : g m ≤ f m = le m (omega arith) in let rest : sum_below m g ≤ sum_below m f = before m (λ k less. le k (omega arith)) in omega arith)

-- an index that is written adds no more than its term
pub sum_written : {X : Type 0} (n i : ℕ) (g : ℕ → X) (v : X) (f : X → ℕ) → sum_below n (λ k. f (upd g i v k)) ≤ sum_below n (λ k. f (g k)) + f v
sum_written n i g v f = elim (cases_lt i n) [
  | inl lt ↦ (let all : sum_below n (λ k. f (upd g i v k)) + f (g i) ≡ sum_below n (λ k. f (g k)) + f v = sum_below_upd n i g v f lt in omega arith)
  | inr le ↦
      (let same : sum_below n (λ k. f (upd g i v k)) ≡ sum_below n (λ k. f (g k)) =
      sum_below_same n (λ k. f (upd g i v k)) (λ k. f (g k)) (λ k less. ap f (upd_off g i k v (λ e. absurd (omega (arith, e))))) in
      omega arith)
]
