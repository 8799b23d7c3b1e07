-- What the places are once a `&mut` to one of their values has ended.
use Rattle.std.specs.Prelude.{ℕ, slice_set, Option, Some}
use Rattle.std.specs.Borrow.{Fml, RattleType, MutBor, Lends}
use Rattle.raw_block.specs.declared.cells.Cells.{Cells}
use Rattle.raw_block.specs.contracts.cells.Cells.{the_row}

-- c, with p at place k
abbrev pub with_place : {X : Type 0} → Cells X → ℕ → Option X → Cells X
with_place c k p = record { mark = c.mark; start = c.start; places = slice_set c.places k p }

-- place k ends with the last value behind r
abbrev pub LendsPlace : (R : RattleType) → MutBor (Cells R.Denot) → ℕ → MutBor R.Denot → Fml
LendsPlace R c k r = Lends (the_row R) R c r (λ w. with_place c.now k (Some w))
