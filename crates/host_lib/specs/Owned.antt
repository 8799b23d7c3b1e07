-- What a slot owns.
use base.Fml.{Fml, ftrue}
use denote.RattleType.{RattleType}
use denote.RawPtr.{Ptr}
use Rattle.std.specs.Prelude.{Option, None, Some}
use Rattle.std.specs.Box.Ownership.{box_owns}
use Rattle.libc.specs.Heap.{chunk}

-- The value in a box of its own; nothing, where there is none.
abbrev pub session_owns : (R : RattleType) → Ptr → Option R.Denot → Fml
session_owns R p None = ftrue
session_owns R p (Some x) = box_owns chunk R p x
