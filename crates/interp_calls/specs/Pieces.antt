-- A test on lists of pieces in the order in which a walk makes it.
use Rattle.std.specs.Prelude.{Bool, true, false, ◌&&◌, if◌then◌else◌, List, [], ◌∷◌}
use Rattle.run_model.specs.declared.event.Piece.{Piece}
use Rattle.run_model.specs.Pieces.{is_data_piece, is_eos_piece}

-- whether data stands behind an EOS of the list, or anywhere in it where an EOS came before the list
abbrev pub late_piece : Bool → List Piece → Bool
late_piece late [] = false
late_piece late (x ∷ xs) = if is_eos_piece x then late_piece true xs else (if late && is_data_piece x then true else late_piece late xs)
