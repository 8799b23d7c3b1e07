-- The linked records, as functions from names.
use Rattle.std.specs.Prelude.{ℕ, Bool, false, Option, None, Some, nat_eq, ◌==◌, if◌then◌else◌}
use Rattle.std.specs.Option.{option_map, option_map_or, option_and_then}
use Rattle.std.specs.HashMap.{get}
use Rattle.run_model.specs.Pools.{Cleanups, no_cleanups}
use Rattle.pool_tree.specs.declared.records.Pool.{Pool}
use Rattle.pool_tree.specs.declared.records.Records.{Records}

-- the record of each name
unfoldable pub record_of : {T : Type 0} → Records T → ℕ → Option (Pool T)
record_of records name = get nat_eq records.by_name name

-- whether a link names the pool p
abbrev pub names : Option ℕ → ℕ → Bool
names None p = false
names (Some n) p = n == p

-- the records where the one that a link names is changed
unfoldable pub changed : {X : Type 0} → Option ℕ → (X → X) → (ℕ → Option X) → ℕ → Option X
changed link f records n = if names link n then option_map f (records n) else records n

-- the pool above
abbrev pub parent_of : {T : Type 0} → (ℕ → Option (Pool T)) → ℕ → Option ℕ
parent_of records n = option_and_then (λ pool. pool.parent) (records n)

-- the child that was made last
abbrev pub newest_of : {T : Type 0} → (ℕ → Option (Pool T)) → ℕ → Option ℕ
newest_of records n = option_and_then (λ pool. pool.newest) (records n)

-- the next older child of the same pool
abbrev pub older_of : {T : Type 0} → (ℕ → Option (Pool T)) → ℕ → Option ℕ
older_of records n = option_and_then (λ pool. pool.older) (records n)

-- the next younger child of the same pool
abbrev pub younger_of : {T : Type 0} → (ℕ → Option (Pool T)) → ℕ → Option ℕ
younger_of records n = option_and_then (λ pool. pool.younger) (records n)

-- what a record has to hand on
abbrev pub cleanups : {T : Type 0} → Pool T → Cleanups T
cleanups pool = record { pre = pool.pre.items; plain = pool.plain.items }

-- what the pool has to hand on
abbrev pub payloads_of : {T : Type 0} → (ℕ → Option (Pool T)) → ℕ → Cleanups T
payloads_of records n = option_map_or cleanups (records n) no_cleanups
