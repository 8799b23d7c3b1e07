-- The child of a pool with the greatest name below a bound.
use Rattle.std.specs.Prelude.{◌≡◌, ℕ, zero, suc, ◌<◌, ◌≤◌, true, false, ◌==◌, is_some, if◌then◌else◌, Option, None, Some, refl, ◌⊎◌}
use Rattle.std.specs.Option.{option_and_then}
use Rattle.std.proofs.Common.{sym, ◌∙◌, ap, subst, inl, inr, arith}
use Rattle.std.proofs.lemmas.Bool.{eqb-true, eq-eqb, ne_eqb, cases_Bool, both_ways, cases_eq}
use Rattle.pool_tree.specs.declared.records.Pool.{Pool}
use Rattle.pool_tree.specs.Records.{names, parent_of, newest_of, older_of, younger_of}
use Rattle.pool_tree.specs.Links.{newest_below}

pub named_is : (o : Option ℕ) (p : ℕ) → names o p ≡ true → o ≡ Some p
named_is None p at = cc
named_is (Some n) p at = ap Some (eqb-true n p at)

pub names_at : (o : Option ℕ) (p : ℕ) → o ≡ Some p → names o p ≡ true
names_at o p at = rw at (eq-eqb p p refl)

module _ {T : Type 0} (records : ℕ → Option (Pool T)) where
  pub below_here : (p m : ℕ) → names (parent_of records m) p ≡ true → newest_below records p (suc m) ≡ Some m
  unfolding newest_below
  below_here p m e = rw e

  pub below_there : (p m : ℕ) → names (parent_of records m) p ≡ false → newest_below records p (suc m) ≡ newest_below records p m
  unfolding newest_below
  below_there p m e = rw e

  -- it is a child, and its name is below the bound
  pub newest_child : (p m c : ℕ) → newest_below records p m ≡ Some c → (parent_of records c ≡ Some p) × (c < m)
  unfolding newest_below
  newest_child p zero c at = cc
  newest_child p (suc m) c at =
      elim (cases_Bool (names (parent_of records m) p)) [
        | inl e ↦
            let here = rw e at at in
            let is : m ≡ c = cc in
            (subst (λ k. parent_of records k ≡ Some p) is (named_is (parent_of records m) p e), omega arith)
        | inr e ↦
            let there = rw e at at in
            let below = newest_child p m c there in
            (below.0, omega (arith, below.1))
      ]

  -- no child below the bound has a greater name
  pub newest_greatest : (p m k : ℕ) → parent_of records k ≡ Some p → k < m → (c : ℕ) × ((newest_below records p m ≡ Some c) × (k ≤ c))
  unfolding newest_below
  newest_greatest p zero k child below = absurd (omega arith)
  newest_greatest p (suc m) k child below =
      elim (cases_Bool (names (parent_of records m) p)) [
        | inl e ↦ (m, (below_here p m e, omega arith))
        | inr e ↦
            let apart : m ≡ k → ⊥ = λ here. both_ways (names (parent_of records m) p) e (names_at (parent_of records m) p (subst (λ j. parent_of records j ≡ Some p) (sym here) child)) in
            let rest = newest_greatest p m k child (omega (arith, apart)) in
            (rest.0, (below_there p m e ∙ rest.1.0, rest.1.1))
      ]

-- a choice by a test of two numbers
pub pick : {X : Type 0} (n m : ℕ) (x y z : X) → z ≡ (if n == m then x else y) → ((n ≡ m) × (z ≡ x)) ⊎ ((n ≡ m → ⊥) × (z ≡ y))
pick n m x y z is =
    elim (cases_eq n m) [
      | inl here ↦ (let at = rw (eq-eqb n m here) at is in inl (here, at))
      | inr apart ↦ (let at = rw (ne_eqb n m apart) at is in inr (apart, at))
    ]

-- the records agree below the bound
pub newest_same : {T : Type 0} (records records' : ℕ → Option (Pool T)) (p m : ℕ) → ((k : ℕ) → k < m → names (parent_of records k) p ≡ names (parent_of records' k) p)
    → newest_below records p m ≡ newest_below records' p m
unfolding newest_below
newest_same records records' p zero same = refl
newest_same records records' p (suc m) same =
    rw (same m (omega arith), newest_same records records' p m (λ k below. same k (omega arith)))

-- what has links is a pool
linked_live : {T : Type 0} (f : Pool T → Option ℕ) (o : Option (Pool T)) (p : ℕ) → option_and_then f o ≡ Some p → is_some o ≡ true
linked_live f None p at = cc
linked_live f (Some pool) p at = refl

module _ {T : Type 0} (records : ℕ → Option (Pool T)) where
  pub parent_live : (n p : ℕ) → parent_of records n ≡ Some p → is_some (records n) ≡ true
  parent_live n p at = linked_live (λ pool. pool.parent) (records n) p at

  pub newest_live : (n p : ℕ) → newest_of records n ≡ Some p → is_some (records n) ≡ true
  newest_live n p at = linked_live (λ pool. pool.newest) (records n) p at

  pub older_live : (n p : ℕ) → older_of records n ≡ Some p → is_some (records n) ≡ true
  older_live n p at = linked_live (λ pool. pool.older) (records n) p at

  pub younger_live : (n p : ℕ) → younger_of records n ≡ Some p → is_some (records n) ≡ true
  younger_live n p at = linked_live (λ pool. pool.younger) (records n) p at

pub none_from : (o : Option ℕ) → ((k : ℕ) → o ≡ Some k → ⊥) → o ≡ None
none_from None never = refl
none_from (Some k) never = absurd (never k refl)
