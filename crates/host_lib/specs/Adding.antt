-- A piece is added to those that a connection is brought next.
use Rattle.std.specs.Prelude.{◌≡◌, ℕ, true, false, List, [], ◌∷◌, ◌++◌, Result, Ok, Err}
use Rattle.run_model.specs.Indexed.{upd}
use Rattle.run_model.specs.declared.event.Piece.{Piece}
use Rattle.host_lib.specs.Does.{DropsPieces, HasConnection, pieces_of}
use Rattle.host_lib.specs.Kinds.{IsNoPiece, IsPieceOf}
use Rattle.host_lib.specs.declared.pieces.PieceRefusal.{PieceRefusal}
use Rattle.host_lib.specs.declared.pieces.PieceRefusal.TheVariants as refusal
use Rattle.host_lib.specs.declared.session.HostSession.{HostSession}

-- It stands behind those of this connection.
abbrev pub AddsPiece : ℕ → Piece → HostSession → HostSession → Type 0
AddsPiece number p s t = (n : ℕ) → pieces_of t n ≡ upd (pieces_of s) number (pieces_of s number ++ p ∷ []) n

abbrev pub IsPieceRefused : ℕ → ℕ → HostSession → PieceRefusal → Type 0
IsPieceRefused number kind s refusal.NoConnection = HasConnection s number false
IsPieceRefused number kind s e = HasConnection s number true × IsNoPiece kind e

-- A piece of this kind and these bytes was added; or why not, and then the connection has none.
abbrev pub TellsPiece : ℕ → ℕ → List ℕ → HostSession → HostSession → Result (Unit {0}) PieceRefusal → Type 0
TellsPiece number kind bytes s t (Ok x) = HasConnection s number true × ((p : Piece) × IsPieceOf kind bytes p × AddsPiece number p s t)
TellsPiece number kind bytes s t (Err e) = IsPieceRefused number kind s e × DropsPieces number s t
