-- A pool behind those under it: all that lie under it are among them.
use Rattle.std.proofs.Common.{◌≡◌, ◌==◌, ◌||◌, ℕ, Bool, true, false, List, [], ◌∷◌, ◌++◌, reverse, refl, ◌∙◌}
use Rattle.std.proofs.lemmas.List.Folds.{list_any-append}
use Rattle.std.proofs.lemmas.List.Sorted.{IsPermutation-refl}
use Rattle.run_model.specs.Pools.{is_live, is_under, is_in}
use Rattle.run_model.specs.RunOrder.{order_under}
use Rattle.pool_tree.specs.declared.tree.PoolTree.{PoolTree}
use Rattle.pool_tree.specs.Tree.{map_of}
use Rattle.brigade_ops.proofs.PoolsReached.{all_reached}

or_last : (last among : Bool) → (last || among) ≡ true → (among || (last || false)) ≡ true
or_last last true is = refl
or_last true false is = refl
or_last false false is = is

pub all_listed : {T : Type 0} (tree : PoolTree T) (pool : ℕ) (found : List ℕ) → is_live (map_of tree) pool ≡ true → reverse found ≡ order_under (map_of tree) pool
    → (p : ℕ) → is_under (map_of tree) pool p ≡ true → is_in p (found ++ pool ∷ []) ≡ true
all_listed tree pool found live order p under =
    list_any-append (λ m. m == p) found (pool ∷ [])
    ∙ or_last (pool == p) (is_in p found) (all_reached tree pool found found live order (IsPermutation-refl found) p ∙ under)
