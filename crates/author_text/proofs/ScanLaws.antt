-- What the scanner passes, and what is left.
use Rattle.std.proofs.Common.{◌≡◌, ℕ, zero, suc, ◌+◌, ◌-◌, ◌<◌, ◌≤◌, Bool, true, false, ◌&&◌, ◌||◌, not, cond, eqb, leb, ltb, List, [], ◌∷◌, ◌++◌, length, take, drop, get_or, Option, Some, None}
use Rattle.std.proofs.Common.{refl, sym, ◌∙◌, ap, subst, arith, length-drop, length-take}
use Rattle.std.specs.Prelude.{is_some, IfSome}
use Rattle.std.specs.Char.{is_ascii_alphabetic, is_ascii_alphanumeric, is_ascii_digit, is_ascii_hexdigit}
use Rattle.std.specs.List.{list_all, prefix_len}
use Rattle.std.specs.Option.{option_and_then, option_map}
use Rattle.std.proofs.lemmas.Bool.{and_parts, and_from, and_right, cases_Bool, cond_both, eqb-false, eqb-true, le-ltb, lt-ltb, not-true, or_left, or_parts, or_right}
use Rattle.std.proofs.lemmas.List.Sums.{prefix_len-le-length}
use Rattle.author_text.specs.declared.escape.Spelled.{Spelled}
use Rattle.author_text.specs.declared.escape.Spelled.TheVariants as spelled
use Rattle.author_text.specs.declared.faults.Faults.{Faults}
use Rattle.author_text.specs.declared.refusal.Refusal.{Refusal}
use Rattle.author_text.specs.Escapes.{may_stand, front_spelled}
use Rattle.author_text.specs.Reading.{KeepsFault, fault_of}
use Rattle.author_text.specs.Scanning.{is_at_token, is_clean, len_to_quote, text_piece}
use Rattle.author_text.specs.TextTokens.{FrontPiece, piece, byte_front, byte_piece, byte_within, comment_front, front_piece}
use Rattle.author_text.specs.TextTokens.{hex_len, is_line_end, len_to_end, mark_front, mark_len, is_slashes, name_front}
use Rattle.author_text.specs.TextTokens.{number_below, number_front, number_piece, text_front, token_front, tokens_behind}
use Rattle.author_text.specs.Tokens.{TokenTree, quoted_token}
use Rattle.author_text.specs.Words.{is_name_byte}
use Rattle.author_text.proofs.EscapeLaws.{checked, ends_at_quote}
use Rattle.author_text.proofs.PieceLaws.{tokens_drop}

-- a fault that was there stays
pub kept_some : (old new : Faults) → KeepsFault old new → is_some (fault_of old) ≡ true → is_some (fault_of new) ≡ true
kept_some old new k h = by_case (fault_of old) refl h
  where
    by_case : (o : Option Refusal) → (fault_of old) ≡ o → is_some o ≡ true → is_some (fault_of new) ≡ true
    by_case None e h = absurd (cc)
    by_case (Some r) e h = ap is_some (k r e)

pub same_map : (o : Option (List TokenTree)) → option_map (λ us. [] ++ us) o ≡ o
same_map None = refl
same_map (Some us) = refl

-- the tokens of a text whose first piece is this one, behind its first byte
abbrev pub onward : List ℕ → Option FrontPiece → Option (List TokenTree)
onward bs o = option_and_then (λ p. option_map (λ us. p.tokens ++ us) (tokens_behind (p.len - 1) bs)) o

-- a blank or a line end
abbrev pub is_blank : ℕ → Bool
is_blank b = eqb b 10 || eqb b 32 || eqb b 9

pub blank_passed : (rest : List ℕ) → is_blank (get_or rest 0 0) ≡ true → (tokens_behind 0 rest ≡ tokens_behind 0 (drop 1 rest)) × (length (drop 1 rest) < length rest)
blank_passed [] h = absurd (cc)
blank_passed (b ∷ bs) h = (
  ap (λ v. onward bs (cond v (piece [] 1) (cond (eqb b 35) (comment_front (b ∷ bs)) (token_front (b ∷ bs))))) h
      ∙ same_map (tokens_behind 0 bs),
  omega arith,
)

-- one byte less than a number of bytes, behind the first
pub behind_less : (n b : ℕ) (bs : List ℕ) → 1 ≤ n → tokens_behind (n - 1) bs ≡ tokens_behind 0 (drop n (b ∷ bs))
behind_less zero b bs h = absurd (omega arith)
behind_less (suc n) b bs h = let e : suc n - 1 ≡ n = omega arith in ap (λ m. tokens_behind m bs) e ∙ tokens_drop n bs

shorter : (n b : ℕ) (bs : List ℕ) → 1 ≤ n → length (drop n (b ∷ bs)) < length (b ∷ bs)
shorter n b bs h = omega (arith, length-drop n (b ∷ bs))

pub record PassesComment (rest : List ℕ) : Type 0 where
  pub passed : is_line_end (drop (prefix_len may_stand rest) rest) ≡ true → tokens_behind 0 rest ≡ tokens_behind 0 (drop (prefix_len may_stand rest) rest)
  pub wrong : is_line_end (drop (prefix_len may_stand rest) rest) ≡ false → tokens_behind 0 rest ≡ None
  pub short : length (drop (prefix_len may_stand rest) rest) < length rest

pub comment_passed : (rest : List ℕ) → get_or rest 0 0 ≡ 35 → PassesComment rest
comment_passed [] h = absurd (cc)
comment_passed (b ∷ bs) h = subst (λ x. PassesComment (x ∷ bs)) (sym h) here
  where
    some : 1 ≤ prefix_len may_stand (35 ∷ bs)
    some = omega arith

    here : PassesComment (35 ∷ bs)
    here = record {
      passed = λ e.
          ap (λ v. onward bs (cond v (piece [] (prefix_len may_stand (35 ∷ bs))) None)) e ∙ same_map (tokens_behind (prefix_len may_stand (35 ∷ bs) - 1) bs)
          ∙ behind_less (prefix_len may_stand (35 ∷ bs)) 35 bs some;
      wrong = λ e. ap (λ v. onward bs (cond v (piece [] (prefix_len may_stand (35 ∷ bs))) None)) e;
      short = shorter (prefix_len may_stand (35 ∷ bs)) 35 bs some;
    }

-- a run of bytes of one kind is of another that has them all
pub run_all : (p q : ℕ → Bool) → ((b : ℕ) → p b ≡ true → q b ≡ true) → (xs : List ℕ) → list_all q (take (prefix_len p xs) xs) ≡ true
run_all p q h [] = refl
run_all p q h (x ∷ xs) = by_case (run_all p q h xs) (p x) refl
  where
    by_case : list_all q (take (prefix_len p xs) xs) ≡ true → (v : Bool) → p x ≡ v → list_all q (take (cond (p x) (1 + prefix_len p xs) 0) (x ∷ xs)) ≡ true
    by_case more true e =
        let one : 1 + prefix_len p xs ≡ suc (prefix_len p xs) = omega arith in
        ap (λ v. list_all q (take (cond v (1 + prefix_len p xs) 0) (x ∷ xs))) e ∙ ap (λ n. list_all q (take n (x ∷ xs))) one ∙ and_from (q x) (list_all q (take (prefix_len p xs) xs)) (h x e) more
    by_case more false e = ap (λ v. list_all q (take (cond v (1 + prefix_len p xs) 0) (x ∷ xs))) e

digit_hex : (b : ℕ) → is_ascii_digit b ≡ true → is_ascii_hexdigit b ≡ true
digit_hex b h = or_left (is_ascii_digit b || (leb 65 b && leb b 70)) (leb 97 b && leb b 102) (or_left (is_ascii_digit b) (leb 65 b && leb b 70) h)

pub digits_hex : (xs : List ℕ) → list_all is_ascii_hexdigit (take (prefix_len is_ascii_digit xs) xs) ≡ true
digits_hex xs = run_all is_ascii_digit is_ascii_hexdigit digit_hex xs

pub hex_all : (text : List ℕ) → list_all is_ascii_hexdigit (take (hex_len text) (drop 2 text)) ≡ true
hex_all [] = refl
hex_all (b ∷ []) = refl
hex_all (b ∷ c ∷ bs) = by_case (eqb b 48 && eqb c 120)
  where
    by_case : (v : Bool) → list_all is_ascii_hexdigit (take (cond v (prefix_len is_ascii_hexdigit bs) 0) bs) ≡ true
    by_case true = run_all is_ascii_hexdigit is_ascii_hexdigit (λ x e. e) bs
    by_case false = refl

pub hex_short : (text : List ℕ) → hex_len text ≤ length text
hex_short [] = omega arith
hex_short (b ∷ []) = omega arith
hex_short (b ∷ c ∷ bs) = by_case (eqb b 48 && eqb c 120)
  where
    by_case : (v : Bool) → cond v (prefix_len is_ascii_hexdigit bs) 0 ≤ length (b ∷ c ∷ bs)
    by_case true = omega (arith, prefix_len-le-length is_ascii_hexdigit bs)
    by_case false = omega arith

-- a number in hexadecimal digits, and one in decimal digits
pub number_hex : (text : List ℕ) (value : Option ℕ) (len : ℕ) → 0 < hex_len text → value ≡ number_below 16 (take (hex_len text) (drop 2 text)) → len ≡ hex_len text + 2
    → number_piece value len ≡ number_front text
number_hex text value len some v n =
    ap (λ x. number_piece x len) v ∙ ap (number_piece (number_below 16 (take (hex_len text) (drop 2 text)))) n
    ∙ sym (ap (λ x. cond x (number_piece (number_below 16 (take (hex_len text) (drop 2 text))) (hex_len text + 2)) (number_piece
    (number_below 10 (take (prefix_len is_ascii_digit text) text)) (prefix_len is_ascii_digit text)))
    (lt-ltb 0 (hex_len text) some))

pub number_plain : (text : List ℕ) (value : Option ℕ) (len : ℕ) → hex_len text ≤ 0 → value ≡ number_below 10 (take len text) → len ≡ prefix_len is_ascii_digit text
    → number_piece value len ≡ number_front text
number_plain text value len none v n =
    ap (λ x. number_piece x len) v ∙ ap (λ k. number_piece (number_below 10 (take k text)) k) n
    ∙ sym (ap (λ x. cond x (number_piece (number_below 16 (take (hex_len text) (drop 2 text))) (hex_len text + 2)) (number_piece
    (number_below 10 (take (prefix_len is_ascii_digit text) text)) (prefix_len is_ascii_digit text)))
    (le-ltb 0 (hex_len text) none))

-- a text whose quote was found, and one whose quote was not
pub text_found : (rest : List ℕ) (n : ℕ) → len_to_quote false (drop 1 rest) ≡ Some n → n ≤ length (drop 1 rest) → text_piece (take n (drop 1 rest)) ≡ text_front rest
text_found rest n e le =
    sym (ap (option_and_then (λ k. piece (quoted_token (take k (drop 1 rest)) ∷ []) (k + 2))) (ends_at_quote (drop 1 rest) ∙ ap (checked (drop 1 rest)) e)
    ∙ by_case (is_clean 0 (take n (drop 1 rest))))
  where
    whole : length (take n (drop 1 rest)) ≡ n
    whole = omega (arith, length-take n (drop 1 rest), le)

    by_case : (v : Bool) → option_and_then (λ k. piece (quoted_token (take k (drop 1 rest)) ∷ []) (k + 2)) (cond v (Some n) None)
        ≡ cond v (piece (quoted_token (take n (drop 1 rest)) ∷ []) (length (take n (drop 1 rest)) + 2)) None
    by_case true = ap (λ k. piece (quoted_token (take n (drop 1 rest)) ∷ []) (k + 2)) (sym whole)
    by_case false = refl

pub text_open : (rest : List ℕ) → len_to_quote false (drop 1 rest) ≡ None → text_front rest ≡ None
text_open rest e = ap (option_and_then (λ k. piece (quoted_token (take k (drop 1 rest)) ∷ []) (k + 2))) (ends_at_quote (drop 1 rest) ∙ ap (checked (drop 1 rest)) e)

pub quote_within : (e : Bool) (bs : List ℕ) (n : ℕ) → len_to_quote e bs ≡ Some n → n ≤ length bs
quote_within e [] n h = absurd (cc)
quote_within e (b ∷ bs) n h = by_case (quote_within (eqb b 92 && not e) bs) (eqb b 10) (eqb b 34 && not e) (len_to_quote (eqb b 92 && not e) bs) refl h
  where
    by_case : ((m : ℕ) → len_to_quote (eqb b 92 && not e) bs ≡ Some m → m ≤ length bs) → (x y : Bool) (o : Option ℕ) → len_to_quote (eqb b 92 && not e) bs ≡ o
        → cond x None (cond y (Some 0) (option_map suc o)) ≡ Some n → n ≤ length (b ∷ bs)
    by_case more true y o q h = absurd (cc)
    by_case more false true o q h = let k : 0 ≡ n = cc in omega (arith, k)
    by_case more false false None q h = absurd (cc)
    by_case more false false (Some m) q h = let k : suc m ≡ n = cc in omega (arith, k, more m q)

-- where neither a blank nor a comment stands first, a token does
pub at_token_front : (b : ℕ) (bs : List ℕ) → is_at_token (b ∷ bs) ≡ true → front_piece (b ∷ bs) ≡ token_front (b ∷ bs)
at_token_front b bs h =
    let k = or_parts (eqb b 10 || eqb b 32 || eqb b 9) (eqb b 35) (not-true (eqb b 10 || eqb b 32 || eqb b 9 || eqb b 35) h) in
    ap (λ v. cond v (piece [] 1) (cond (eqb b 35) (comment_front (b ∷ bs)) (token_front (b ∷ bs)))) k.0
    ∙ ap (λ v. cond v (comment_front (b ∷ bs)) (token_front (b ∷ bs))) k.1
