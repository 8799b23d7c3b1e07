-- The numbers of the kinds of pieces.
use Rattle.std.specs.Prelude.{◌≡◌, ℕ, ◌<◌, List}
use Rattle.run_model.specs.declared.event.Piece.{Piece}
use Rattle.run_model.specs.declared.event.Piece.TheVariants as piece
use Rattle.host_lib.specs.declared.pieces.PieceRefusal.{PieceRefusal}
use Rattle.host_lib.specs.declared.pieces.PieceRefusal.TheVariants as refusal

-- It is of the kind of this number, and has these bytes if it has any.
abbrev pub IsPieceOf : ℕ → List ℕ → Piece → Type 0
IsPieceOf kind bytes (piece.Heap b) = (kind ≡ 0) × (b ≡ bytes)
IsPieceOf kind bytes (piece.Transient b) = (kind ≡ 1) × (b ≡ bytes)
IsPieceOf kind bytes (piece.Immortal b) = (kind ≡ 2) × (b ≡ bytes)
IsPieceOf kind bytes (piece.Pool b) = (kind ≡ 3) × (b ≡ bytes)
IsPieceOf kind bytes (piece.File file start len) = ⊥
IsPieceOf kind bytes piece.Flush = kind ≡ 4
IsPieceOf kind bytes piece.Eos = kind ≡ 5

-- Why there is none of this kind: no kind has the number, or there is no memory.
abbrev pub IsNoPiece : ℕ → PieceRefusal → Type 0
IsNoPiece kind refusal.NoConnection = ⊥
IsNoPiece kind refusal.NoKind = 5 < kind
IsNoPiece kind refusal.NoMemory = Unit {0}
