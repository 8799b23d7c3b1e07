-- A brigade that a filter handed to the next one.
use Rattle.std.specs.Prelude.{ℕ}
use Rattle.run_model.specs.Effects.{handed_over}
use Rattle.run_model.specs.State.{Configuration, set_brigade}

-- The brigade of the variable b is with the next filter: the caller has it passed and empty, whatever its list in the store is.
abbrev pub lent : ℕ → Configuration → Configuration
lent b r = set_brigade b (handed_over (r.instance.brigades b)) r
