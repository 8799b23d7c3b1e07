-- The pools that a clear reaches, in the order of their names.
use Rattle.std.proofs.Common.{◌≡◌, ◌==◌, ◌<◌, ◌≤◌, ◌||◌, ◌&&◌, ℕ, Bool, true, false, not, List, reverse, length, get_or, is_ok, Result, Ok, Err, refl, sym, ap, ◌∙◌, arith, ⊎_elim}
use Rattle.std.specs.List.Sorted.{IsBinarySearchResult, IsNonDecreasing, IsPermutation}
use Rattle.std.specs.Ordering.{nat_cmp}
use Rattle.std.specs.Result.{MatchResult}
use Rattle.std.proofs.lemmas.Bool.{cases_lt, eqb-true, eq-eqb, ne_eqb, false≢true}
use Rattle.std.proofs.lemmas.List.Folds.{list_any_at, list_any_none}
use Rattle.std.proofs.lemmas.List.Sorted.{list_any-IsPermutation, searched}
use Rattle.std.proofs.lemmas.List.{get_or_default}
use Rattle.run_model.specs.Pools.{is_live, is_under, is_in}
use Rattle.run_model.specs.RunOrder.{order_under}
use Rattle.run_model.proofs.RunOrderLaws.{under_itself}
use Rattle.pool_tree.specs.declared.tree.PoolTree.{PoolTree}
use Rattle.pool_tree.specs.Tree.{map_of}
use Rattle.pool_tree.proofs.Rooms.{found_is}
use Rattle.pool_tree.proofs.Trees.{tree_formed}
use Rattle.bucket_store.proofs.DueBuckets.{in_turned}

-- a search among names that rise finds the one that is there
module _ (xs : List ℕ) (x : ℕ) where
  apart : (i : ℕ) → ((k : ℕ) → k < i → get_or xs k 0 < x) → ((k : ℕ) → i ≤ k → k < length xs → x < get_or xs k 0) → (k : ℕ) → k < length xs → (get_or xs k 0 == x) ≡ false
  apart i low high k lt =
      ⊎_elim (λ (l : k < i). ne_eqb (get_or xs k 0) x (λ e. omega (arith, low k l, e))) (λ (l : i ≤ k). ne_eqb (get_or xs k 0) x (λ e. omega (arith, high k l lt, e))) (cases_lt k i)

  by_answer : (r : Result ℕ ℕ)
      → MatchResult r (λ i. (i < length xs) × (get_or xs i 0 ≡ x)) (λ i. (i ≤ length xs) × ((k : ℕ) → k < i → get_or xs k 0 < x) × ((k : ℕ) → i ≤ k → k < length xs → x < get_or xs k 0))
      → is_ok r ≡ is_in x xs
  by_answer (Ok i) at = sym (list_any_at (λ m. m == x) xs i 0 at.0 (eq-eqb (get_or xs i 0) x at.1))
  by_answer (Err i) none = sym (list_any_none (λ m. m == x) xs (λ k d lt. ap (λ m. m == x) (get_or_default xs k d 0 lt) ∙ apart i none.1 none.2 k lt))

  pub found_in : (r : Result ℕ ℕ) → IsBinarySearchResult (λ y. nat_cmp y x) xs r → IsNonDecreasing xs → is_ok r ≡ is_in x xs
  found_in r at up = by_answer r (searched xs x r at (λ i j le lt. up i j 0 le lt))

and_yes : (a : Bool) → (a && true) ≡ a
and_yes true = refl
and_yes false = refl

-- a pool, and those under it
pub all_reached : {T : Type 0} (tree : PoolTree T) (pool : ℕ) (found under : List ℕ) → is_live (map_of tree) pool ≡ true → reverse found ≡ order_under (map_of tree) pool
    → IsPermutation found under
    → (p : ℕ) → (pool == p || is_in p under) ≡ is_under (map_of tree) pool p
all_reached tree pool found under live order moved p =
    ap (λ b. pool == p || b) (sym (list_any-IsPermutation (λ m. m == p) found under moved) ∙ (in_turned p found ∙ found_is tree pool found live order p))
    ∙ by_name (p == pool) refl
  where
    by_name : (b : Bool) → (p == pool) ≡ b → (pool == p || is_under (map_of tree) pool p && not b) ≡ is_under (map_of tree) pool p
    by_name true here =
        let same : p ≡ pool = eqb-true p pool here in
        rw (eq-eqb pool p (sym same)) (sym (ap (is_under (map_of tree) pool) same ∙ under_itself (map_of tree) (tree_formed tree) pool live))
    by_name false other = rw (ne_eqb pool p (λ e. false≢true (sym other ∙ eq-eqb p pool (sym e)))) (and_yes (is_under (map_of tree) pool p))
