-- A table of values by their names: at the place that a name tells, or in a map.
use Rattle.std.specs.Prelude.{ℕ, ◌%◌, ◌==◌, nat_eq, if◌then◌else◌, Option, None, Some, List, slice_index_or}
use Rattle.std.specs.HashMap.{get, spare}
use Rattle.name_table.specs.declared.table.NameTable.{NameTable}
use Rattle.name_table.specs.declared.table.Named.{Named}

-- f with x at n
unfoldable pub upd : {X : Type 0} → (ℕ → X) → ℕ → X → ℕ → X
upd f n x m = if m == n then x else f m

-- what lies at a place, where it is the value of name n
abbrev pub own : {V : Type 0} → ℕ → Option (Named V) → Option V
own n None = None
own n (Some near) = if near.name == n then Some near.value else None

abbrev pub or_far : {V : Type 0} → Option V → Option V → Option V
or_far None far = far
or_far (Some near) far = Some near

unfoldable pub near_in : {V : Type 0} → List (Option (Named V)) → ℕ → Option V
near_in places n = own n (slice_index_or places (n % 64) None)

-- the value of a name
unfoldable pub value_in : {V : Type 0} → NameTable V → ℕ → Option V
value_in table n = or_far (near_in table.near.items n) (get nat_eq table.far n)

-- so many more values find room
abbrev pub room_in : {V : Type 0} → NameTable V → ℕ
room_in table = spare table.far
