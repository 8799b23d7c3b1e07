-- A pool map once a pool was cleared, and once that pool was ended too.
use Rattle.std.specs.Prelude.{◌≡◌, ℕ, true, [], ◌∷◌}
use Rattle.std.proofs.Common.{sym, ◌∙◌, ap}
use Rattle.run_model.specs.Pools.{Pools, is_live, cleared, destroyed}
use Rattle.run_model.specs.RunOrder.{children}
use Rattle.pool_tree.specs.declared.tree.PoolTree.{PoolTree}
use Rattle.pool_tree.specs.Tree.{map_of}
use Rattle.pool_tree.proofs.Emptied.{cleared_live, cleared_path_own, cleared_childless, destroyed_cleared}
use Rattle.pool_tree.proofs.Trees.{tree_formed}

module _ {T : Type 0} (tree : PoolTree T) (p : ℕ) (mid : Pools T) (clear : mid ≡ cleared p (map_of tree)) where
  pub still_live : is_live (map_of tree) p ≡ true → is_live mid p ≡ true
  still_live live = ap (λ ps. is_live ps p) clear ∙ cleared_live (map_of tree) p ∙ live

  pub now_childless : is_live (map_of tree) p ≡ true → children mid p ≡ []
  now_childless live = ap (λ ps. children ps p) clear ∙ cleared_childless (map_of tree) (tree_formed tree) p (cleared p (map_of tree)).next live

  pub still_under : ((map_of tree).path p ≡ p ∷ [] → ⊥) → mid.path p ≡ p ∷ [] → ⊥
  still_under under at = under (sym (cleared_path_own (map_of tree) p) ∙ sym (ap (λ ps. ps.path p) clear) ∙ at)

  pub then_destroyed : is_live (map_of tree) p ≡ true → (new : Pools T) → new ≡ destroyed p mid → new ≡ destroyed p (map_of tree)
  then_destroyed live new ended = ended ∙ ap (destroyed p) clear ∙ destroyed_cleared (map_of tree) (tree_formed tree) p live
