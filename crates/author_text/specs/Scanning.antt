-- What the scanner's functions do with what is left of a text.
use Rattle.std.specs.Prelude.{◌≡◌, ℕ, zero, suc, ◌+◌, ◌-◌, ◌<◌, ◌≤◌, Bool, true, false, ◌&&◌, ◌||◌, not, ◌==◌, ◌⊎◌, List, [], ◌∷◌, ◌++◌, drop, length, map, is_some, MatchOption}
use Rattle.std.specs.Prelude.{Option, Some, None, option_map, if◌then◌else◌}
use Rattle.std.specs.Char.{is_ascii_digit, is_ascii_hexdigit}
use Rattle.author_text.specs.declared.escape.Spelled.{Spelled}
use Rattle.author_text.specs.declared.escape.Spelled.TheVariants as spelled
use Rattle.author_text.specs.declared.faults.Faults.{Faults}
use Rattle.author_text.specs.declared.refusal.Refusal.TheVariants as refusal
use Rattle.author_text.specs.declared.scan.Class.{Class}
use Rattle.author_text.specs.declared.scan.Class.TheVariants as class
use Rattle.author_text.specs.declared.scan.Scanner.{Scanner}
use Rattle.author_text.specs.declared.token.Token.{Token}
use Rattle.author_text.specs.Escapes.{may_stand, front_spelled}
use Rattle.author_text.specs.Reading.{fault_of}
use Rattle.author_text.specs.TextTokens.{FrontPiece, piece, tokens_behind}
use Rattle.author_text.specs.Tokens.{quoted_token, token_of}
use Rattle.author_text.specs.Words.{is_name_byte}

abbrev pub is_of : Class → ℕ → Bool
is_of class.Digit b = is_ascii_digit b
is_of class.HexDigit b = is_ascii_hexdigit b
is_of class.Name b = is_name_byte b
is_of class.Comment b = may_stand b

-- how many bytes stand before the first quote that no backslash stands before, on this line
abbrev pub len_to_quote : Bool → List ℕ → Option ℕ
len_to_quote is_escaped [] = None
len_to_quote is_escaped (b ∷ bs) =
    if b == 10 then None
    else (if b == 34 && not is_escaped then Some 0 else option_map suc (len_to_quote (b == 92 && not is_escaped) bs))

-- whether a byte is spelled as none may be
abbrev pub is_wrong : Spelled → Bool
is_wrong (spelled.Byte b n) = n == 1 && not (may_stand b)
is_wrong (spelled.NoEscape b) = true
is_wrong spelled.Nothing = false

abbrev pub bytes_of : Spelled → ℕ
bytes_of (spelled.Byte b n) = n
bytes_of (spelled.NoEscape b) = 1
bytes_of spelled.Nothing = 1

-- whether each byte of what stands in quotes is spelled well, where n bytes of an escape are left first
abbrev pub is_clean : ℕ → List ℕ → Bool
is_clean n [] = true
is_clean (suc n) (b ∷ bs) = is_clean n bs
is_clean zero (b ∷ bs) = not (is_wrong (front_spelled (b ∷ bs))) && is_clean (bytes_of (front_spelled (b ∷ bs)) - 1) bs

-- the piece that stands first is passed, and is this token; or there is a fault
abbrev pub TakesPiece : Option FrontPiece → Scanner → Scanner → Token → Type 0
TakesPiece None old new t = is_some (fault_of new.faults) ≡ true
TakesPiece (Some p) old new t = ((fault_of new.faults) ≡ None) × (p.tokens ≡ token_of t ∷ []) × (new.rest.now ≡ drop p.len old.rest.now)

-- nothing was wrong, and this holds; or there was no memory, or the text has more than tokens and what stands between them
abbrev pub JudgesText : Faults → List ℕ → Type 0 → Type 0
JudgesText f text P = MatchOption (fault_of f) P (λ r. (r ≡ refusal.NoMemory) ⊎ (tokens_behind 0 text ≡ None))

-- neither a blank nor a comment stands first
abbrev pub is_at_token : List ℕ → Bool
is_at_token [] = true
is_at_token (b ∷ bs) = not (b == 10 || b == 32 || b == 9 || b == 35)

-- what stood in quotes, if each byte of it is spelled well
abbrev pub text_piece : List ℕ → Option FrontPiece
text_piece text = if is_clean 0 text then piece (quoted_token text ∷ []) (length text + 2) else None

-- one token more is found, which stood first behind blanks; or none was left
abbrev pub Advances : Bool → List Token → List Token → List ℕ → List ℕ → Type 0
Advances true old new rest next =
    (t : Token) × (new ≡ old ++ t ∷ []) × (tokens_behind 0 rest ≡ option_map (λ us. token_of t ∷ us) (tokens_behind 0 next)) × (length next < length rest)
Advances false old new rest next = (new ≡ old) × (tokens_behind 0 rest ≡ Some [])

-- all tokens are found, behind those that were there
abbrev pub FindsAll : List Token → List Token → List ℕ → Type 0
FindsAll old new rest = (ts : List Token) × (new ≡ old ++ ts) × (tokens_behind 0 rest ≡ Some (map token_of ts))

-- so many bytes are left at most behind the tokens that were found so far
abbrev pub FindsSoFar : List Token → List Token → List ℕ → List ℕ → ℕ → Type 0
FindsSoFar old new rest next count =
    (ts : List Token) × (new ≡ old ++ ts) × (tokens_behind 0 rest ≡ option_map (λ us. map token_of ts ++ us) (tokens_behind 0 next))
    × (length next + count ≤ length rest)
