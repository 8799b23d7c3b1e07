-- The pools that a clear reaches.
use Rattle.std.specs.Prelude.{ℕ, Bool, ◌==◌, ◌||◌}
use Rattle.run_model.specs.Pools.{is_in}
use Rattle.brigade_ops.specs.declared.reached.Reached.{Reached}

-- whether a clear reaches the pool of a name
abbrev pub is_reached : Reached → ℕ → Bool
is_reached reached p = reached.pool == p || is_in p reached.under.items
