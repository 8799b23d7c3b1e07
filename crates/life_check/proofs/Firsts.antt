-- First refusals.
use Rattle.std.proofs.Common.{◌≡◌, ℕ, zero, suc, ◌<◌, Bool, true, false, Option, Some, None, ⊎_elim, refl, ap, sym, subst, ◌∙◌, arith}
use Rattle.std.proofs.lemmas.Bool.{cases_eq}
use Rattle.life_check.specs.declared.refusal.CheckRefusal.{CheckRefusal}
use Rattle.life_check.specs.declared.refusal.Rule.{Rule}
use Rattle.life_check.specs.Typed.{refusal, unless, or_else, first_below}

pub unless_none : (b : Bool) (pc : ℕ) (r : Rule) → unless b pc r ≡ None → b ≡ true
unless_none true pc r h = refl
unless_none false pc r h = cc

pub unless_holds : (b : Bool) (pc : ℕ) (r : Rule) → b ≡ true → unless b pc r ≡ None
unless_holds true pc r h = refl
unless_holds false pc r h = cc

pub unless_refused : (b : Bool) (pc : ℕ) (r : Rule) (x : CheckRefusal) → unless b pc r ≡ Some x → (b ≡ false) × (refusal pc r ≡ x)
unless_refused true pc r x h = cc
unless_refused false pc r x h = (refl, some_is h)
  where
    some_is : {u v : CheckRefusal} → Some u ≡ Some v → u ≡ v
    some_is e = cc

pub or_none : (a b : Option CheckRefusal) → or_else a b ≡ None → (a ≡ None) × (b ≡ None)
or_none None b h = (refl, h)
or_none (Some r) b h = cc

pub none_or : (a b : Option CheckRefusal) → a ≡ None → b ≡ None → or_else a b ≡ None
none_or None b p q = q
none_or (Some r) b p q = cc

pub before_some : (a b : Option CheckRefusal) (r : CheckRefusal) → a ≡ Some r → or_else a b ≡ Some r
before_some a b r h = ap (λ x. or_else x b) h

pub after_none : (a b : Option CheckRefusal) → a ≡ None → or_else a b ≡ b
after_none a b h = ap (λ x. or_else x b) h

pub none_below : (n : ℕ) (f : ℕ → Option CheckRefusal) → ((k : ℕ) → k < n → f k ≡ None) → first_below n f ≡ None
unfolding first_below
none_below zero f all = refl
none_below (suc n) f all = none_or (first_below n f) (f n) (none_below n f (λ k below. all k (omega arith))) (all n (omega arith))

pub none_at : (n k : ℕ) (f : ℕ → Option CheckRefusal) → first_below n f ≡ None → k < n → f k ≡ None
unfolding first_below
none_at zero k f all below = absurd (omega arith)
none_at (suc n) k f all below =
    let both = or_none (first_below n f) (f n) all in
    ⊎_elim (λ (same : k ≡ n). subst (λ (m : ℕ). f m ≡ None) (sym same) (both.1)) (λ (other : k ≡ n → ⊥). none_at n k f (both.0) (omega arith)) (cases_eq k n)

-- one refuses, and none before it
pub some_below : (n k : ℕ) (f : ℕ → Option CheckRefusal) (r : CheckRefusal) → k < n → ((j : ℕ) → j < k → f j ≡ None) → f k ≡ Some r → first_below n f ≡ Some r
unfolding first_below
some_below zero k f r below before here = absurd (omega arith)
some_below (suc n) k f r below before here =
    ⊎_elim
    (λ (same : k ≡ n). after_none (first_below n f) (f n) (none_below n f (λ j less. before j (omega arith))) ∙ subst (λ (m : ℕ). f m ≡ Some r) same here)
    (λ (other : k ≡ n → ⊥). before_some (first_below n f) (f n) r (some_below n k f r (omega arith) before here))
    (cases_eq k n)
