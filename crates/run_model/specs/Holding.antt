-- What a pool holds: references to files, and brigades.
use Rattle.std.specs.Prelude.{ℕ, Bool, count_by}
use Rattle.std.specs.List.{list_any}
use Rattle.run_model.specs.declared.payload.Payload.{Payload}
use Rattle.run_model.specs.Payloads.{is_file_ref, is_brigade}
use Rattle.run_model.specs.Pools.{Pools, all_held}

-- whether the pool p holds a reference to the file
abbrev pub refers : Pools Payload → ℕ → ℕ → Bool
refers ps p file = list_any (is_file_ref file) (all_held (ps.payloads p))

-- how often a brigade stands among the payloads of a pool
abbrev pub times_held : Pools Payload → ℕ → ℕ → ℕ
times_held ps name p = count_by (is_brigade name) (all_held (ps.payloads p))
