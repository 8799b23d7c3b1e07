-- How bytes are spelled in quotes.
use Rattle.std.specs.Prelude.{ℕ, zero, suc, ◌+◌, ◌-◌, ◌*◌, Bool, true, false, ◌&&◌, ◌||◌, not, nat_le, ◌==◌, List, [], ◌∷◌, Option, Some, None, codes, option_and_then, option_map, if◌then◌else◌}
use Rattle.author_text.specs.declared.escape.Spelled.{Spelled}
use Rattle.author_text.specs.declared.escape.Spelled.TheVariants as spelled

-- a byte that may stand in a text, line ends apart: a tab, or a printable one
abbrev pub may_stand : ℕ → Bool
may_stand b = b == 9 || (nat_le 32 b && nat_le b 126)

-- the value of a hexadecimal digit, in either case
abbrev pub hex_value : ℕ → Option ℕ
hex_value b =
    if nat_le 48 b && nat_le b 57 then Some (b - 48)
    else (if nat_le 97 b && nat_le b 102 then Some (b - 97 + 10)
    else (if nat_le 65 b && nat_le b 70 then Some (b - 65 + 10) else None))

-- two hexadecimal digits
abbrev pub hex_byte : List ℕ → Option ℕ
hex_byte [] = None
hex_byte (h ∷ []) = None
hex_byte (h ∷ l ∷ bs) = option_and_then (λ m. option_map (λ n. 16 * m + n) (hex_value l)) (hex_value h)

-- the byte that stands for another behind a backslash
abbrev pub escaped : ℕ → Option ℕ
escaped b =
    if b == 110 then Some 10
    else (if b == 114 then Some 13
    else (if b == 116 then Some 9
    else (if b == 48 then Some 0
    else (if b == 34 || b == 39 || b == 92 then Some b else None))))

abbrev pub spelled_in : ℕ → ℕ → Option ℕ → Spelled
spelled_in letter len None = spelled.NoEscape letter
spelled_in letter len (Some b) = spelled.Byte b len

-- what follows a backslash
abbrev pub escape_front : List ℕ → Spelled
escape_front [] = spelled.Nothing
escape_front (b ∷ bs) = if b == 120 then spelled_in 120 4 (hex_byte bs) else spelled_in b 2 (escaped b)

-- what the front of a text in quotes spells
abbrev pub front_spelled : List ℕ → Spelled
front_spelled [] = spelled.Nothing
front_spelled (b ∷ bs) = if b == 92 then escape_front bs else spelled.Byte b 1

-- a byte, and what is spelled behind the bytes that spell it
abbrev pub with_byte : Spelled → (ℕ → List ℕ) → List ℕ
with_byte (spelled.Byte b n) behind = b ∷ behind n
with_byte (spelled.NoEscape b) behind = []
with_byte spelled.Nothing behind = []

-- the bytes that a text in quotes spells, up to what spells none, where n bytes of an escape are left first
abbrev pub spelled_bytes : ℕ → List ℕ → List ℕ
spelled_bytes n [] = []
spelled_bytes (suc n) (b ∷ bs) = spelled_bytes n bs
spelled_bytes zero (b ∷ bs) = with_byte (front_spelled (b ∷ bs)) (λ n. spelled_bytes (n - 1) bs)
