-- Tests of all or some indices below a bound.
use Rattle.std.proofs.Common.{◌≡◌, ℕ, zero, suc, ◌<◌, Bool, true, false, ◌&&◌, ◌||◌, not, refl, ap, subst, ⊎_elim, ◌∙◌, arith}
use Rattle.std.proofs.lemmas.Bool.{cases_eq}
use Rattle.run_model.specs.Indexed.{any_below}
use Rattle.life_state.specs.Order.{all_below}

pub all_below_holds : (n : ℕ) (p : ℕ → Bool) → ((k : ℕ) → k < n → p k ≡ true) → all_below n p ≡ true
unfolding all_below
all_below_holds zero p all = refl
all_below_holds (suc n) p all =
    ap (λ b. b && all_below n p) (all n (omega arith)) ∙ all_below_holds n p (λ k below. all k (omega arith))

pub and_false : (a : Bool) → (a && false) ≡ false
and_false true = refl
and_false false = refl

pub all_below_fails : (n k : ℕ) (p : ℕ → Bool) → k < n → p k ≡ false → all_below n p ≡ false
unfolding all_below
all_below_fails zero k p below here = absurd (omega arith)
all_below_fails (suc n) k p below here =
    ⊎_elim (λ (same : k ≡ n). ap (λ b. b && all_below n p) (subst (λ (m : ℕ). p m ≡ false) same here))
    (λ (other : k ≡ n → ⊥). ap (λ b. p n && b) (all_below_fails n k p (omega arith) here) ∙ and_false (p n)) (cases_eq k n)

pub or_as_and : (a b : Bool) → (a || not b) ≡ not (not a && b)
or_as_and true b = refl
or_as_and false b = refl

-- some index passes where not all fail
pub any_as_all : (n : ℕ) (p : ℕ → Bool) → any_below n p ≡ not (all_below n (λ k. not (p k)))
unfolding all_below any_below
any_as_all zero p = refl
any_as_all (suc n) p = ap (λ b. p n || b) (any_as_all n p) ∙ or_as_and (p n) (all_below n (λ k. not (p k)))

pub none_below : (n : ℕ) (p : ℕ → Bool) → ((k : ℕ) → k < n → p k ≡ false) → any_below n p ≡ false
none_below n p none = any_as_all n p ∙ ap not (all_below_holds n (λ k. not (p k)) (λ k below. ap not (none k below)))

pub some_below : (n k : ℕ) (p : ℕ → Bool) → k < n → p k ≡ true → any_below n p ≡ true
some_below n k p below here = any_as_all n p ∙ ap not (all_below_fails n k (λ i. not (p i)) below (ap not here))
