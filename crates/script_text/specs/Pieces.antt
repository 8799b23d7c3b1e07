-- The pieces of a brigade, as scripts write them.
use Rattle.std.specs.Prelude.{ℕ, suc, zero, ◌+◌, ◌-◌, ◌<◌, ◌≤◌, ◌&&◌, nat_eq, if◌then◌else◌, List, [], ◌∷◌, ◌++◌, length, drop, Option, Some, None, find, codes}
use Rattle.std.specs.Option.{option_and_then}
use Rattle.std.specs.List.{starts_with}
use Rattle.run_model.specs.declared.event.Piece.{Piece}
use Rattle.run_model.specs.declared.event.Piece.TheVariants as piece
use Rattle.module_code.specs.Names.{is_name}
use Rattle.byte_text.specs.Quoted.{Quoted, quoted}
use Rattle.script_text.specs.declared.pieces.MemoryKind.{MemoryKind}
use Rattle.script_text.specs.declared.pieces.MemoryKind.TheVariants as kind
use Rattle.script_text.specs.declared.pieces.ScriptPiece.{ScriptPiece}
use Rattle.script_text.specs.declared.pieces.ScriptPiece.TheVariants as script_piece
use Rattle.script_text.specs.declared.pieces.PieceRead.{PieceRead}
use Rattle.byte_text.specs.Bytes.{token, after_token}
use Rattle.script_text.specs.Words.{number_at, after_number, is_parted, is_empty}

-- the word before a text, with the spaces around it
unfoldable pub word_of : MemoryKind → List ℕ
word_of kind.Heap = codes " heap "
word_of kind.Transient = codes " transient "
word_of kind.Immortal = codes " immortal "
word_of kind.Pool = codes " pool "

-- the piece of a text
unfoldable pub piece_of : MemoryKind → List ℕ → Piece
piece_of kind.Heap text = piece.Heap text
piece_of kind.Transient text = piece.Transient text
piece_of kind.Immortal text = piece.Immortal text
piece_of kind.Pool text = piece.Pool text

abbrev pub text_kinds : List MemoryKind
text_kinds = kind.Heap ∷ kind.Transient ∷ kind.Immortal ∷ kind.Pool ∷ []

unfoldable pub kind_at : List ℕ → Option MemoryKind
kind_at bytes = find (λ k. starts_with nat_eq bytes (word_of k)) text_kinds

-- a piece with a text in quotes
abbrev pub text_from : MemoryKind → Option Quoted → List ℕ → Option PieceRead
text_from k None bytes = None
text_from k (Some q) bytes =
    if is_parted (drop q.used bytes) then Some (record { piece = script_piece.Ready (piece_of k q.text); used = length (word_of k) + q.used }) else None

abbrev pub text_of_kind : MemoryKind → List ℕ → Option PieceRead
text_of_kind k bytes = text_from k (quoted (drop (length (word_of k)) bytes)) (drop (length (word_of k)) bytes)

unfoldable pub text_at : List ℕ → Option PieceRead
text_at bytes = option_and_then (λ k. text_of_kind k bytes) (kind_at bytes)

-- a piece that is a word alone
unfoldable pub word_piece : List ℕ → Piece → List ℕ → Option PieceRead
word_piece word p bytes =
    if starts_with nat_eq bytes word && is_parted (drop (length word) bytes) then Some (record { piece = script_piece.Ready p; used = length word }) else None

-- a range of a file, where the name and both numbers are there
abbrev pub range_of : List ℕ → Option ℕ → Option ℕ → ℕ → Option PieceRead
range_of name None len used = None
range_of name (Some start) None used = None
range_of name (Some start) (Some len) used = Some (record { piece = script_piece.Range name start len; used = used })

-- what follows a name and the first number
abbrev pub after_start : List ℕ → List ℕ
after_start bytes = after_number (after_token bytes)

abbrev pub range_from : List ℕ → Option PieceRead
range_from bytes =
    if is_name (token bytes)
    then range_of (token bytes) (number_at (after_token bytes)) (number_at (after_start bytes)) (6 + (length bytes - length (after_number (after_start bytes))))
    else None

-- the piece `file`, a name, and where the range begins and how long it is
unfoldable pub range_at : List ℕ → Option PieceRead
range_at bytes = if starts_with nat_eq bytes (codes " file ") then range_from (drop 6 bytes) else None

abbrev pub or_else : Option PieceRead → Option PieceRead → Option PieceRead
or_else None second = second
or_else (Some r) second = Some r

-- the piece that stands after a space
unfoldable pub piece_at : List ℕ → Option PieceRead
piece_at bytes = or_else (word_piece (codes " eos") piece.Eos bytes) (or_else (word_piece (codes " flush") piece.Flush bytes) (or_else (range_at bytes) (text_at bytes)))

-- a piece takes at least a byte, and no more than there are
pub record IsPieceWithin (r : PieceRead) (bytes : List ℕ) : Type 0 where
  pub moves : 0 < r.used
  pub fits : r.used ≤ length bytes

-- the pieces so far, and those that these bytes are, at most n of them
abbrev pub pieces_from : ℕ → List ScriptPiece → List ℕ → Option (List ScriptPiece)
pieces_from zero done bytes = if is_empty bytes then Some done else None
pieces_from (suc n) done bytes =
    if is_empty bytes then Some done
    else option_and_then (λ r. pieces_from n (done ++ r.piece ∷ []) (drop r.used bytes)) (piece_at bytes)

unfoldable pub pieces_of : List ℕ → Option (List ScriptPiece)
pieces_of bytes = pieces_from (length bytes) [] bytes
