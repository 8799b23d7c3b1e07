-- What the linked records mean, and what is true of them between two calls.
use Rattle.std.specs.Prelude.{◌≡◌, ℕ, zero, suc, ◌<◌, Bool, true, false, ◌==◌, ◌&&◌, not, if◌then◌else◌, is_some, Option, None, Some, List, [], ◌∷◌}
use Rattle.std.specs.Option.{option_map_or}
use Rattle.run_model.specs.Pools.{Pools, Cleanups, no_cleanups}
use Rattle.pool_tree.specs.declared.records.Pool.{Pool}
use Rattle.pool_tree.specs.Records.{names, parent_of, newest_of, older_of, younger_of, payloads_of}

-- the path of a pool with this record, where above gives the paths of the others
abbrev pub linked_path : {T : Type 0} → (ℕ → List ℕ) → ℕ → Option (Pool T) → List ℕ
linked_path above n None = []
linked_path above n (Some pool) = n ∷ option_map_or above pool.parent []

-- the first names of a path, by the links to the pools above
unfoldable pub path_within : {T : Type 0} → ℕ → (ℕ → Option (Pool T)) → ℕ → List ℕ
path_within zero records n = []
path_within (suc depth) records n = linked_path (path_within depth records) n (records n)

-- The pool map that the records stand for. A pool above has a smaller name, so no path is longer than its first name.
unfoldable pub map_at : {T : Type 0} → ℕ → (ℕ → Option (Pool T)) → Pools T
map_at next records = record { path = λ n. path_within (suc n) records n; payloads = payloads_of records; next = next }

-- the child of p with the greatest name below a bound
unfoldable pub newest_below : {T : Type 0} → (ℕ → Option (Pool T)) → ℕ → ℕ → Option ℕ
newest_below records p zero = None
newest_below records p (suc n) = if names (parent_of records n) p then Some n else newest_below records p n

-- What is true of the records: each pool but the root has a live pool above it with a smaller name, and the links
-- to the newest child and between the children of a pool are those of the names.
pub record RecordsLinked {T : Type 0} (root next : ℕ) (records : ℕ → Option (Pool T)) : Type 0 where
  pub root_live : is_some (records root) ≡ true
  pub root_above : parent_of records root ≡ None
  pub root_alone : older_of records root ≡ None
  pub named : (n : ℕ) → is_some (records n) ≡ true → n < next
  pub rooted : (n : ℕ) → is_some (records n) ≡ true → parent_of records n ≡ None → n ≡ root
  pub rises : (n p : ℕ) → parent_of records n ≡ Some p → p < n
  pub closed : (n p : ℕ) → parent_of records n ≡ Some p → is_some (records p) ≡ true
  pub newest : (p : ℕ) → newest_of records p ≡ newest_below records p next
  pub older : (n p : ℕ) → parent_of records n ≡ Some p → older_of records n ≡ newest_below records p n
  pub younger : (n m : ℕ) → younger_of records n ≡ Some m → older_of records m ≡ Some n
  pub elder : (n m : ℕ) → older_of records m ≡ Some n → younger_of records n ≡ Some m
  pub youngest : (n p : ℕ) → parent_of records n ≡ Some p → younger_of records n ≡ None → newest_of records p ≡ Some n
  pub last : (p n : ℕ) → newest_of records p ≡ Some n → younger_of records n ≡ None

-- A child was added to a pool, under a name that was no pool's.
pub record IsChildAdded {T : Type 0} (name parent : ℕ) (old new : ℕ → Option (Pool T)) : Type 0 where
  pub live : (n : ℕ) → is_some (new n) ≡ (if n == name then true else is_some (old n))
  pub parents : (n : ℕ) → parent_of new n ≡ (if n == name then Some parent else parent_of old n)
  pub newest : (n : ℕ) → newest_of new n ≡ (if n == parent then Some name else if n == name then None else newest_of old n)
  pub older : (n : ℕ) → older_of new n ≡ (if n == name then newest_of old parent else older_of old n)
  pub younger : (n : ℕ) → younger_of new n ≡ (if names (newest_of old parent) n then Some name else if n == name then None else younger_of old n)
  pub payloads : (n : ℕ) → payloads_of new n ≡ (if n == name then no_cleanups else payloads_of old n)

-- The payloads of one pool are others, and nothing else was changed.
pub record IsRefilled {T : Type 0} (name : ℕ) (items : Cleanups T) (old new : ℕ → Option (Pool T)) : Type 0 where
  pub live : (n : ℕ) → is_some (new n) ≡ is_some (old n)
  pub parents : (n : ℕ) → parent_of new n ≡ parent_of old n
  pub newest : (n : ℕ) → newest_of new n ≡ newest_of old n
  pub older : (n : ℕ) → older_of new n ≡ older_of old n
  pub younger : (n : ℕ) → younger_of new n ≡ younger_of old n
  pub payloads : (n : ℕ) → payloads_of new n ≡ (if n == name then items else payloads_of old n)

-- The pools that pass a test went, and with them the payloads of p and its link to them.
pub record IsCleared {T : Type 0} (p : ℕ) (goes : ℕ → Bool) (old new : ℕ → Option (Pool T)) : Type 0 where
  pub live : (n : ℕ) → is_some (new n) ≡ (if goes n then false else is_some (old n))
  pub parents : (n : ℕ) → parent_of new n ≡ (if goes n then None else parent_of old n)
  pub newest : (n : ℕ) → newest_of new n ≡ (if goes n then None else if n == p then None else newest_of old n)
  pub older : (n : ℕ) → older_of new n ≡ (if goes n then None else older_of old n)
  pub younger : (n : ℕ) → younger_of new n ≡ (if goes n then None else younger_of old n)
  pub payloads : (n : ℕ) → payloads_of new n ≡ (if goes n then no_cleanups else if n == p then no_cleanups else payloads_of old n)

-- A pool went that had no children, and those beside it and above it are linked past it.
pub record IsRemoved {T : Type 0} (p : ℕ) (old new : ℕ → Option (Pool T)) : Type 0 where
  pub live : (n : ℕ) → is_some (new n) ≡ (if n == p then false else is_some (old n))
  pub parents : (n : ℕ) → parent_of new n ≡ (if n == p then None else parent_of old n)
  pub newest : (n : ℕ) → newest_of new n ≡ (if n == p then None else if names (parent_of old p) n && not (is_some (younger_of old p)) then older_of old p else newest_of old n)
  pub older : (n : ℕ) → older_of new n ≡ (if n == p then None else if names (younger_of old p) n then older_of old p else older_of old n)
  pub younger : (n : ℕ) → younger_of new n ≡ (if n == p then None else if names (older_of old p) n then younger_of old p else younger_of old n)
  pub payloads : (n : ℕ) → payloads_of new n ≡ (if n == p then no_cleanups else payloads_of old n)

-- A pool is there, and so are those that it is linked to.
pub record HasNeighbours {T : Type 0} (p : ℕ) (records : ℕ → Option (Pool T)) : Type 0 where
  pub live : is_some (records p) ≡ true
  pub above : (n : ℕ) → parent_of records p ≡ Some n → is_some (records n) ≡ true
  pub older : (n : ℕ) → older_of records p ≡ Some n → is_some (records n) ≡ true
  pub younger : (n : ℕ) → younger_of records p ≡ Some n → is_some (records n) ≡ true
