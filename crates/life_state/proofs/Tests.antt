-- Tests joined by `and`, `or` and `implies`.
use Rattle.std.proofs.Common.{◌≡◌, ℕ, zero, suc, ◌<◌, Bool, true, false, ◌&&◌, ◌||◌, not, ◌⊎◌, inl, inr, refl, ap, sym, subst, ◌∙◌, ⊎_elim, arith}
use Rattle.std.proofs.lemmas.Bool.{cases_eq}
use Rattle.life_state.specs.Order.{implies, all_below}

pub split2 : (x y : Bool) → (x && y) ≡ true → (x ≡ true) × (y ≡ true)
split2 true y h = (refl, h)
split2 false y h = cc

pub and2 : (x y : Bool) → x ≡ true → y ≡ true → (x && y) ≡ true
and2 x y p q = ap (λ b. b && y) p ∙ q

pub split3 : (x y z : Bool) → (x && y && z) ≡ true → (x ≡ true) × (y ≡ true) × (z ≡ true)
split3 true true z h = (refl, refl, h)
split3 true false z h = cc
split3 false y z h = cc

pub and3 : (x y z : Bool) → x ≡ true → y ≡ true → z ≡ true → (x && y && z) ≡ true
and3 x y z p q r = and2 (x && y) z (and2 x y p q) r

pub or_either : (x y : Bool) → (x || y) ≡ true → (x ≡ true) ⊎ (y ≡ true)
or_either true y h = inl refl
or_either false y h = inr h

pub or_left : (x y : Bool) → x ≡ true → (x || y) ≡ true
or_left x y p = ap (λ b. b || y) p

pub or_right : (x y : Bool) → y ≡ true → (x || y) ≡ true
or_right true y p = refl
or_right false y p = p

pub or_false : (x y : Bool) → (x || y) ≡ false → (x ≡ false) × (y ≡ false)
or_false true y h = cc
or_false false y h = (refl, h)

pub not_true : (x : Bool) → not x ≡ true → x ≡ false
not_true true h = cc
not_true false h = refl

pub implies_same : (a : Bool) → implies a a ≡ true
implies_same true = refl
implies_same false = refl

pub implies_trans : (a b c : Bool) → implies a b ≡ true → implies b c ≡ true → implies a c ≡ true
implies_trans true true c p q = q
implies_trans true false c p q = cc
implies_trans false b c p q = refl

pub implies_left : (a b : Bool) → implies a (a || b) ≡ true
implies_left true b = refl
implies_left false b = refl

pub implies_right : (a b : Bool) → implies b (a || b) ≡ true
implies_right true true = refl
implies_right true false = refl
implies_right false true = refl
implies_right false false = refl

pub implies_says : (a b : Bool) → implies a b ≡ true → a ≡ true → b ≡ true
implies_says true b h e = h
implies_says false b h e = cc

pub implies_by : (a b : Bool) → (a ≡ true → b ≡ true) → implies a b ≡ true
implies_by true b f = f refl
implies_by false b f = refl

pub all_at : (n k : ℕ) (p : ℕ → Bool) → all_below n p ≡ true → k < n → p k ≡ true
unfolding all_below
all_at zero k p all h = absurd (omega arith)
all_at (suc n) k p all h =
    let both = split2 (p n) (all_below n p) all in
    ⊎_elim (λ (same : k ≡ n). subst (λ (m : ℕ). p m ≡ true) (sym same) (both.0)) (λ (other : k ≡ n → ⊥). all_at n k p (both.1) (omega arith)) (cases_eq k n)
