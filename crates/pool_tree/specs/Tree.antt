-- What contracts see of a pool tree.
use Rattle.std.specs.Prelude.{ℕ, ◌+◌, ◌-◌, ◌^◌, min}
use Rattle.run_model.specs.Pools.{Pools}
use Rattle.pool_tree.specs.declared.tree.PoolTree.{PoolTree}
use Rattle.pool_tree.specs.Records.{record_of}
use Rattle.pool_tree.specs.Links.{map_at}

-- the pool map of a tree
unfoldable pub map_of : {T : Type 0} → PoolTree T → Pools T
map_of tree = map_at tree.next (record_of tree.records)

-- a count of questions goes up by one, and stays where it can go no higher
abbrev pub once_more : ℕ → ℕ
once_more n = min (n + 1) (2 ^ 64 - 1)
