-- Each token has a byte at least.
use Rattle.std.proofs.Common.{◌≡◌, ℕ, ◌+◌, ◌≤◌, Bool, true, false, ◌&&◌, ◌||◌, not, cond, eqb, ltb, List, [], ◌∷◌, length, take, drop, Option, Some, None}
use Rattle.std.proofs.Common.{refl, sym, ap, subst, arith}
use Rattle.std.specs.Prelude.{IfSome}
use Rattle.std.specs.Char.{is_ascii_alphabetic, is_ascii_digit}
use Rattle.std.specs.List.{prefix_len}
use Rattle.std.specs.Option.{option_and_then}
use Rattle.std.proofs.lemmas.Bool.{cond_both, eqb-false, or_parts}
use Rattle.author_text.specs.declared.escape.Spelled.{Spelled}
use Rattle.author_text.specs.declared.escape.Spelled.TheVariants as spelled
use Rattle.author_text.specs.Escapes.{front_spelled, may_stand}
use Rattle.author_text.specs.TextTokens.{FrontPiece, piece, byte_front, byte_piece, byte_within, hex_len, is_quote, is_slashes, len_to_end}
use Rattle.author_text.specs.TextTokens.{mark_front, mark_len, name_front, name_or_word, number_below, number_front, number_piece, text_front, token_front}
use Rattle.author_text.specs.Tokens.{TokenTree, number_token, quoted_token, mark_token}
use Rattle.author_text.specs.Words.{is_name_byte}
use Rattle.author_text.proofs.PieceLaws.{letter_named}

abbrev HasBytes : Option FrontPiece → Type 0
HasBytes o = IfSome o (λ p. 1 ≤ p.len)

text_bytes : (text : List ℕ) → HasBytes (text_front text)
text_bytes text = by_len (len_to_end 0 (drop 1 text))
  where
    by_len : (o : Option ℕ) → HasBytes (option_and_then (λ n. piece (quoted_token (take n (drop 1 text)) ∷ []) (n + 2)) o)
    by_len None = tt
    by_len (Some n) = omega arith

byte_bytes : (s : Spelled) (inner : List ℕ) → HasBytes (byte_within s inner)
byte_bytes (spelled.Byte b n) inner =
    cond_both (not (eqb n 1 && not (may_stand b)) && is_quote (drop n inner)) (piece (number_token b ∷ []) (n + 2)) None HasBytes (λ e. omega arith) (λ e. tt)
byte_bytes (spelled.NoEscape b) inner = tt
byte_bytes spelled.Nothing inner = tt

number_bytes : (o : Option ℕ) (len : ℕ) → 1 ≤ len → HasBytes (number_piece o len)
number_bytes None len h = tt
number_bytes (Some n) len h = h

digits_some : (b : ℕ) (bs : List ℕ) (p : ℕ → Bool) → p b ≡ true → 1 ≤ prefix_len p (b ∷ bs)
digits_some b bs p e = subst (λ v. 1 ≤ cond v (1 + prefix_len p bs) 0) (sym e) (omega arith)

numbers_bytes : (b : ℕ) (bs : List ℕ) → is_ascii_digit b ≡ true → HasBytes (number_front (b ∷ bs))
numbers_bytes b bs e =
    let text = b ∷ bs in
    cond_both (ltb 0 (hex_len text)) (number_piece (number_below 16 (take (hex_len text) (drop 2 text))) (hex_len text + 2)) (number_piece
    (number_below 10 (take (prefix_len is_ascii_digit text) text)) (prefix_len is_ascii_digit text)) HasBytes
    (λ h. number_bytes (number_below 16 (take (hex_len text) (drop 2 text))) (hex_len text + 2) (omega arith))
    (λ h. number_bytes (number_below 10 (take (prefix_len is_ascii_digit text) text)) (prefix_len is_ascii_digit text) (digits_some b bs is_ascii_digit e))

mark_bytes : (text : List ℕ) → HasBytes (mark_front text)
mark_bytes text =
    cond_both (is_slashes text || eqb (mark_len text) 0) None (piece (mark_token (take (mark_len text) text) ∷ []) (mark_len text)) HasBytes (λ h. tt)
    (λ h. let k = eqb-false (mark_len text) 0 (or_parts (is_slashes text) (eqb (mark_len text) 0) h).1 in omega (arith, k))

token_bytes : (text : List ℕ) → HasBytes (token_front text)
token_bytes [] = tt
token_bytes (b ∷ bs) =
    cond_both (eqb b 34) (text_front (b ∷ bs)) (cond (eqb b 39) (byte_front (b ∷ bs)) (cond (is_ascii_digit b) (number_front (b ∷ bs))
    (cond (is_ascii_alphabetic b) (name_front (b ∷ bs)) (mark_front (b ∷ bs))))) HasBytes
    (λ e. text_bytes (b ∷ bs))
    (λ e.
    cond_both (eqb b 39) (byte_front (b ∷ bs)) (cond (is_ascii_digit b) (number_front (b ∷ bs)) (cond (is_ascii_alphabetic b) (name_front (b ∷ bs)) (mark_front (b ∷ bs)))) HasBytes
    (λ f. byte_bytes (front_spelled bs) bs)
    (λ f.
    cond_both (is_ascii_digit b) (number_front (b ∷ bs)) (cond (is_ascii_alphabetic b) (name_front (b ∷ bs)) (mark_front (b ∷ bs))) HasBytes (numbers_bytes b bs)
    (λ g. cond_both (is_ascii_alphabetic b) (name_front (b ∷ bs)) (mark_front (b ∷ bs)) HasBytes (λ h. digits_some b bs is_name_byte (letter_named b h)) (λ h. mark_bytes (b ∷ bs)))))

pub token_some : (text : List ℕ) (p : FrontPiece) → token_front text ≡ Some p → 1 ≤ p.len
token_some text p e = subst HasBytes e (token_bytes text)
