-- Texts in quotes as they are written: the grammar.
use Rattle.std.specs.Prelude.{◌≡◌, ℕ, ◌+◌, ◌*◌, Bool, true, ◌&&◌, not, nat_lt, ◌==◌, List, [], ◌∷◌, ◌++◌, map, All}
use Rattle.byte_text.specs.Bytes.{is_printable}
use Rattle.byte_text.specs.Quoted.{hex_digit}

-- how one byte of a text is written: as it is, or by `\"`, `\\`, `\n`, `\r` or `\xHH`
pub data BytePiece : Type 0 where
  plain : ℕ → BytePiece
  quote : BytePiece
  backslash : BytePiece
  line_feed : BytePiece
  carriage_return : BytePiece
  hex : ℕ → ℕ → BytePiece

abbrev pub piece_text : BytePiece → List ℕ
piece_text (plain b) = b ∷ []
piece_text quote = 92 ∷ 34 ∷ []
piece_text backslash = 92 ∷ 92 ∷ []
piece_text line_feed = 92 ∷ 110 ∷ []
piece_text carriage_return = 92 ∷ 114 ∷ []
piece_text (hex high low) = 92 ∷ 120 ∷ hex_digit high ∷ hex_digit low ∷ []

abbrev pub piece_byte : BytePiece → ℕ
piece_byte (plain b) = b
piece_byte quote = 34
piece_byte backslash = 92
piece_byte line_feed = 10
piece_byte carriage_return = 13
piece_byte (hex high low) = 16 * high + low

-- a printable byte but `"` and `\`, or two digits in lower case
abbrev pub is_piece : BytePiece → Bool
is_piece (plain b) = is_printable b && not (b == 34) && not (b == 92)
is_piece (hex high low) = nat_lt high 16 && nat_lt low 16
is_piece _ = true

abbrev pub pieces_text : List BytePiece → List ℕ
pieces_text [] = []
pieces_text (c ∷ cs) = piece_text c ++ pieces_text cs

-- a text in quotes, and the bytes that it spells
pub record Spells (spelled bytes : List ℕ) : Type 0 where
  pub pieces : List BytePiece
  pub right : All (λ c. is_piece c ≡ true) pieces
  pub whole : spelled ≡ 34 ∷ (pieces_text pieces ++ 34 ∷ [])
  pub same : bytes ≡ map piece_byte pieces

-- some bytes begin with a text in quotes
pub record StandsIn (text bytes : List ℕ) : Type 0 where
  pub spelled : List ℕ
  pub rest : List ℕ
  pub right : Spells spelled text
  pub whole : bytes ≡ spelled ++ rest
