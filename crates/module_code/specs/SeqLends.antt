-- What a borrow of a list's items leaves.
use Rattle.std.specs.Prelude.{List, ◌++◌, take, drop, length}
use Rattle.std.specs.Borrow.{Lends, MutBor, Fml, Array, RattleType}
use Rattle.module_code.specs.contracts.seq.Seq.{the_row}

-- the new items in the place of the old ones, as many as there were
abbrev pub refilled : {X : Type 0} → List X → List X → List X
refilled old new = take (length old) (new ++ drop (length new) old)

-- The list ends with the items that the borrow shows last.
abbrev pub LendsItems : (T : RattleType) → MutBor (List T.Denot) → MutBor (List T.Denot) → Fml
LendsItems T items r = Lends (the_row T) (Array T 0) items r (refilled items.now)
