-- Data behind an EOS, told in one walk over pieces.
use Rattle.std.proofs.Common.{◌≡◌, Bool, true, false, ◌||◌, List, refl, ◌∙◌}
use Rattle.run_model.specs.declared.event.Piece.{Piece}
use Rattle.run_model.specs.Pieces.{bucket_of, is_data_piece, is_eos_piece, data_behind_eos}
use Rattle.interp_calls.specs.Pieces.{late_piece}
use Rattle.interp_state.proofs.LateData.{eos_is_no_data, late_is}

or_false : (b : Bool) → (b || false) ≡ b
or_false true = refl
or_false false = refl

-- where no EOS came before the pieces
pub late_from_none : (pieces : List Piece) → late_piece false pieces ≡ data_behind_eos pieces
late_from_none pieces =
    late_is is_eos_piece is_data_piece (λ x. eos_is_no_data (bucket_of 0 0 x).kind) late_piece data_behind_eos (λ t. refl) (λ t x xs. refl) refl (λ x xs. refl) false pieces
    ∙ or_false (data_behind_eos pieces)
