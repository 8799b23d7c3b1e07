-- The tokens that a text has. Between them stand blanks, line ends and comments. Each is as long as it can be.
use Rattle.std.specs.Prelude.{ℕ, zero, suc, ◌+◌, ◌-◌, ◌^◌, Bool, true, false, ◌&&◌, ◌||◌, not, nat_eq, nat_lt, ◌==◌, List, [], ◌∷◌, ◌++◌, take, drop}
use Rattle.std.specs.Prelude.{Option, Some, None, codes, option_and_then, option_map, if◌then◌else◌}
use Rattle.std.specs.Char.{is_ascii_alphabetic, is_ascii_digit, is_ascii_hexdigit}
use Rattle.std.specs.List.{list_any, prefix_len}
use Rattle.std.specs.Str.Parse.{digits_value}
use Rattle.author_text.specs.declared.escape.Spelled.{Spelled}
use Rattle.author_text.specs.declared.escape.Spelled.TheVariants as spelled
use Rattle.author_text.specs.Escapes.{may_stand, front_spelled}
use Rattle.author_text.specs.Tokens.{TokenTree, number_token, quoted_token, name_token, word_token, mark_token}
use Rattle.author_text.specs.Words.{is_name_byte, is_word}

-- what stands first: a token, or a blank, a line end or a comment, which is none; and how many bytes it has
pub record FrontPiece : Type 0 where
  pub tokens : List TokenTree
  pub len : ℕ

abbrev pub piece : List TokenTree → ℕ → Option FrontPiece
piece ts n = Some (record { tokens = ts; len = n })

-- the number that digits write, which is below 2^32
abbrev pub number_below : ℕ → List ℕ → Option ℕ
number_below base digits = if nat_lt (digits_value base digits) (2 ^ 32) then Some (digits_value base digits) else None

abbrev pub number_piece : Option ℕ → ℕ → Option FrontPiece
number_piece value len = option_and_then (λ n. piece (number_token n ∷ []) len) value

-- how many hexadecimal digits stand behind `0x`
abbrev pub hex_len : List ℕ → ℕ
hex_len [] = 0
hex_len (b ∷ []) = 0
hex_len (b ∷ c ∷ bs) = if b == 48 && c == 120 then prefix_len is_ascii_hexdigit bs else 0

-- `0x` and hexadecimal digits, or decimal digits
abbrev pub number_front : List ℕ → Option FrontPiece
number_front text =
    if nat_lt 0 (hex_len text) then number_piece (number_below 16 (take (hex_len text) (drop 2 text))) (hex_len text + 2)
    else number_piece (number_below 10 (take (prefix_len is_ascii_digit text) text)) (prefix_len is_ascii_digit text)

-- a name, or a word of the language
abbrev pub name_or_word : List ℕ → TokenTree
name_or_word text = if is_word text then word_token text else name_token text

abbrev pub name_front : List ℕ → Option FrontPiece
name_front text = piece (name_or_word (take (prefix_len is_name_byte text) text) ∷ []) (prefix_len is_name_byte text)

-- a byte of a text in quotes, which stands for itself or is an escape: how many bytes spell it
abbrev pub spelled_len : Spelled → Option ℕ
spelled_len (spelled.Byte b n) = if n == 1 && not (may_stand b) then None else Some n
spelled_len (spelled.NoEscape b) = None
spelled_len spelled.Nothing = None

-- how many bytes stand before the quote that ends a text, where n bytes of an escape are left first
abbrev pub len_to_end : ℕ → List ℕ → Option ℕ
len_to_end n [] = None
len_to_end (suc n) (b ∷ bs) = option_map suc (len_to_end n bs)
len_to_end zero (b ∷ bs) =
    if b == 34 then Some 0 else option_and_then (λ n. option_map suc (len_to_end (n - 1) bs)) (spelled_len (front_spelled (b ∷ bs)))

-- what stands between quotes, as it is spelled
abbrev pub text_front : List ℕ → Option FrontPiece
text_front text = option_and_then (λ n. piece (quoted_token (take n (drop 1 text)) ∷ []) (n + 2)) (len_to_end 0 (drop 1 text))

abbrev pub is_quote : List ℕ → Bool
is_quote [] = false
is_quote (b ∷ bs) = b == 39

-- a byte in quotes, where n bytes spell it: one that stands for itself may stand in a text
abbrev pub byte_piece : ℕ → ℕ → List ℕ → Option FrontPiece
byte_piece b n inner = if not (n == 1 && not (may_stand b)) && is_quote (drop n inner) then piece (number_token b ∷ []) (n + 2) else None

abbrev pub byte_within : Spelled → List ℕ → Option FrontPiece
byte_within (spelled.Byte b n) inner = byte_piece b n inner
byte_within (spelled.NoEscape b) inner = None
byte_within spelled.Nothing inner = None

abbrev pub byte_front : List ℕ → Option FrontPiece
byte_front text = byte_within (front_spelled (drop 1 text)) (drop 1 text)

-- a mark of two bytes
abbrev pub is_pair : ℕ → ℕ → Bool
is_pair a b = (list_any (nat_eq a) (codes "+-=!<>") && b == 61) || (a == 60 && b == 60) || (a == 62 && b == 62)

-- the mark that stands first: the longest one, or none
abbrev pub single_len : ℕ → ℕ
single_len a = if list_any (nat_eq a) (codes "+-*/%<>=(){}[],") then 1 else 0

abbrev pub mark_len : List ℕ → ℕ
mark_len [] = 0
mark_len (a ∷ []) = single_len a
mark_len (a ∷ b ∷ bs) = if is_pair a b then 2 else single_len a

-- `//` begins nothing
abbrev pub is_slashes : List ℕ → Bool
is_slashes [] = false
is_slashes (a ∷ []) = false
is_slashes (a ∷ b ∷ bs) = a == 47 && b == 47

abbrev pub mark_front : List ℕ → Option FrontPiece
mark_front text =
    if is_slashes text || mark_len text == 0 then None else piece (mark_token (take (mark_len text) text) ∷ []) (mark_len text)

-- the token that stands first
abbrev pub token_front : List ℕ → Option FrontPiece
token_front [] = None
token_front (b ∷ bs) =
    if b == 34 then text_front (b ∷ bs)
    else (if b == 39 then byte_front (b ∷ bs)
    else (if is_ascii_digit b then number_front (b ∷ bs)
    else (if is_ascii_alphabetic b then name_front (b ∷ bs) else mark_front (b ∷ bs))))

-- a comment goes up to the end of its line
abbrev pub is_line_end : List ℕ → Bool
is_line_end [] = true
is_line_end (b ∷ bs) = b == 10

abbrev pub comment_front : List ℕ → Option FrontPiece
comment_front text = if is_line_end (drop (prefix_len may_stand text) text) then piece [] (prefix_len may_stand text) else None

abbrev pub front_piece : List ℕ → Option FrontPiece
front_piece [] = None
front_piece (b ∷ bs) =
    if b == 10 || b == 32 || b == 9 then piece [] 1
    else (if b == 35 then comment_front (b ∷ bs) else token_front (b ∷ bs))

-- the tokens of a text, of whose first piece n bytes are left
abbrev pub tokens_behind : ℕ → List ℕ → Option (List TokenTree)
tokens_behind n [] = Some []
tokens_behind (suc n) (b ∷ bs) = tokens_behind n bs
tokens_behind zero (b ∷ bs) = option_and_then (λ p. option_map (λ ts. p.tokens ++ ts) (tokens_behind (p.len - 1) bs)) (front_piece (b ∷ bs))

-- the tokens of a text, if it has no more than tokens, and blanks, line ends and comments between them
unfoldable pub tokens_of : List ℕ → Option (List TokenTree)
tokens_of text = tokens_behind 0 text
