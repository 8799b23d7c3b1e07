-- What is left of the text of a pool and those under it, where a walk has come to one of them.
use Rattle.std.specs.Prelude.{◌≡◌, ℕ, zero, suc, ◌+◌, ◌≤◌, true, ◌==◌, if◌then◌else◌, Option, None, Some, List, [], ◌∷◌, ◌++◌}
use Rattle.std.specs.List.{flat_map}
use Rattle.run_model.specs.Pools.{is_live, is_under}
use Rattle.pool_tree.specs.declared.records.Pool.{Pool}
use Rattle.pool_tree.specs.declared.tree.PoolTree.{PoolTree}
use Rattle.pool_tree.specs.Records.{record_of, younger_of}
use Rattle.pool_tree.specs.Tree.{map_of}

-- a child and the younger ones, by at most so many links
unfoldable pub from_on : {T : Type 0} → ℕ → (ℕ → Option (Pool T)) → Option ℕ → List ℕ
from_on zero records o = []
from_on (suc k) records None = []
from_on (suc k) records (Some c) = c ∷ from_on k records (younger_of records c)

-- how many pools stand above a pool of this path, where so many stand above the top
unfoldable pub level_of : ℕ → ℕ → List ℕ → ℕ
level_of top start [] = start
level_of top start (n ∷ above) = if n == top then start else level_of top start above + 1

-- the text that comes behind a pool of this path and those under it, up to the end of those under the top
unfoldable pub behind_path : (ℕ → ℕ → List ℕ) → (ℕ → List ℕ) → ℕ → ℕ → List ℕ → List ℕ
behind_path text younger top start [] = []
behind_path text younger top start (n ∷ above) = if n == top then [] else flat_map (text (level_of top start (n ∷ above))) (younger n) ++ behind_path text younger top start above

module _ {T : Type 0} where
  unfoldable pub text_behind : (ℕ → ℕ → List ℕ) → PoolTree T → ℕ → ℕ → ℕ → List ℕ
  text_behind text tree top start n = behind_path text (λ c. from_on tree.next (record_of tree.records) (younger_of (record_of tree.records) c)) top start ((map_of tree).path n)

  -- what is left, where a pool is the next, at this level
  abbrev pub text_left : (ℕ → ℕ → List ℕ) → PoolTree T → ℕ → ℕ → Option (ℕ × ℕ) → List ℕ
  text_left text tree top start None = []
  text_left text tree top start (Some place) = text place.1 place.0 ++ text_behind text tree top start place.0

  -- the walk comes to this pool, at this level
  pub record IsPlace (tree : PoolTree T) (top start n level : ℕ) : Type 0 where
    pub live : is_live (map_of tree) n ≡ true
    pub under : is_under (map_of tree) top n ≡ true
    pub low : start ≤ top
    pub level_is : level ≡ level_of top start ((map_of tree).path n)
