-- A test at each index below a number.
use Rattle.std.proofs.Common.{◌≡◌, ℕ, zero, suc, ◌<◌, Bool, true, false, ◌||◌, refl, ap, subst, ⊎_elim, ◌∙◌, arith}
use Rattle.std.proofs.lemmas.Bool.{cases_eq, or_left, or_right}
use Rattle.run_model.specs.Indexed.{any_below}

pub any_below_none : (n : ℕ) (p : ℕ → Bool) → ((k : ℕ) → k < n → p k ≡ false) → any_below n p ≡ false
unfolding any_below
any_below_none zero p none = refl
any_below_none (suc n) p none =
    ap (λ b. b || any_below n p) (none n (omega arith)) ∙ any_below_none n p (λ k below. none k (omega arith))

pub any_below_some : (n k : ℕ) (p : ℕ → Bool) → k < n → p k ≡ true → any_below n p ≡ true
unfolding any_below
any_below_some zero k p below here = absurd (omega arith)
any_below_some (suc n) k p below here =
    ⊎_elim (λ (same : k ≡ n). or_left (p n) (any_below n p) (subst (λ (m : ℕ). p m ≡ true) same here))
    (λ (other : k ≡ n → ⊥). or_right (p n) (any_below n p) (any_below_some n k p (omega arith) here)) (cases_eq k n)
