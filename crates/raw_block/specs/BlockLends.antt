-- What a block is once a `&mut` to one of its values has ended.
use Rattle.std.specs.Prelude.{ℕ}
use Rattle.std.specs.Borrow.{Fml, RattleType, MutBor, Lends}
use Rattle.raw_block.specs.declared.block.Block.{Block}
use Rattle.raw_block.specs.contracts.block.Block.{the_row}
use Rattle.raw_block.specs.Blocks.{with_at}

-- the value at place k ends as the last one behind r
abbrev pub LendsAt : (R : RattleType) → MutBor (Block R.Denot) → ℕ → MutBor R.Denot → Fml
LendsAt R b k r = Lends (the_row R) R b r (λ w. with_at b.now k w)
