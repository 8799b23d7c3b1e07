-- The pieces that a connection is brought next.
use Rattle.std.specs.Prelude.{ℕ, ◌==◌, nat_eq, if◌then◌else◌, List, [], Option, Some, None}
use Rattle.std.specs.HashMap.{get}
use Rattle.run_model.specs.declared.event.Piece.{Piece}
use Rattle.host_lib.specs.declared.pieces.Pieces.{Pieces}

abbrev pub list_in : Option (List Piece) → List Piece
list_in None = []
list_in (Some ps) = ps

-- those of one connection lie apart, and those of the others in the map
unfoldable pub pieces_at : Pieces → ℕ → List Piece
pieces_at pieces number = if number == pieces.last then pieces.apart else list_in (get nat_eq pieces.by_number number)
