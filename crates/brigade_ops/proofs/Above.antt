-- Pools above a pool.
use Rattle.std.proofs.Common.{◌≡◌, ℕ, Bool, true, false, ◌||◌, not, eqb, List, [], ◌∷◌, refl, sym, ap, subst, ⊎_elim, ◌∙◌}
use Rattle.std.proofs.lemmas.Bool.{false≢true, cases_eq, ne_eqb}
use Rattle.run_model.specs.Pools.{Pools, is_live, is_under, is_in, is_empty}
use Rattle.run_model.specs.RunOrder.{IsPoolMap}

live_by : {T : Type 0} (ps : Pools T) (n m : ℕ) (above : List ℕ) → ps.path n ≡ m ∷ above → is_live ps n ≡ true
unfolding is_live
live_by ps n m above path = ap (λ (xs : List ℕ). not (is_empty xs)) path

or_false : (a b : Bool) → a ≡ false → (a || b) ≡ true → b ≡ true
or_false true b none some = absurd (false≢true (sym none))
or_false false b none some = some

-- what stands on a path is a pool
live_in : {T : Type 0} (ps : Pools T) → IsPoolMap ps → (n m : ℕ) (xs : List ℕ) → ps.path m ≡ xs → is_in n xs ≡ true → is_live ps n ≡ true
live_in ps f n m [] at is = absurd (false≢true is)
live_in ps f n m (k ∷ []) at is =
    ⊎_elim
    (λ (same : k ≡ n). subst (λ (j : ℕ). is_live ps j ≡ true) (sym (f.first m k [] at) ∙ same) (live_by ps m k [] at))
    (λ (other : k ≡ n → ⊥). absurd (false≢true (or_false (eqb k n) false (ne_eqb k n other) is)))
    (cases_eq k n)
live_in ps f n m (k ∷ p ∷ rest) at is =
    ⊎_elim
    (λ (same : k ≡ n). subst (λ (j : ℕ). is_live ps j ≡ true) (sym (f.first m k (p ∷ rest) at) ∙ same) (live_by ps m k (p ∷ rest) at))
    (λ (other : k ≡ n → ⊥). live_in ps f n p (p ∷ rest) (f.closed m k p rest at) (or_false (eqb k n) (is_in n (p ∷ rest)) (ne_eqb k n other) is))
    (cases_eq k n)

-- nothing stands under what is no pool
pub dead_above : {T : Type 0} (ps : Pools T) → IsPoolMap ps → (n m : ℕ) → is_live ps n ≡ false → is_under ps n m ≡ false
unfolding is_under
dead_above ps f n m dead = by_test (is_in n (ps.path m)) refl where
  by_test : (b : Bool) → is_in n (ps.path m) ≡ b → b ≡ false
  by_test true is = absurd (false≢true (sym dead ∙ live_in ps f n m (ps.path m) refl is))
  by_test false is = refl

none_in : (n : ℕ) (xs : List ℕ) → not (is_empty xs) ≡ false → is_in n xs ≡ false
none_in n [] none = refl
none_in n (x ∷ xs) none = absurd (false≢true (sym none))

-- no pool stands above what is no pool
pub dead_below : {T : Type 0} (ps : Pools T) (p n : ℕ) → is_live ps n ≡ false → is_under ps p n ≡ false
unfolding is_live is_under
dead_below ps p n dead = none_in p (ps.path n) dead
