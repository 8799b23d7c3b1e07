-- What is left of the pieces decides.
use Rattle.std.proofs.Common.{◌≡◌, false, drop}
use Rattle.interp_calls.specs.Pieces.{late_piece}
use Rattle.module_run.proofs.pieces.has_late_data.Given as goal

abbrev pub invariant-loop-piece : goal.invariant-loop-piece
invariant-loop-piece l = late_piece l.late (drop l.piece-index l.pieces) ≡ late_piece false l.pieces
