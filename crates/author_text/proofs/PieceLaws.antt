-- How pieces of a text are read, whatever follows them.
use Rattle.std.proofs.Common.{◌≡◌, ℕ, zero, suc, ◌+◌, ◌-◌, ◌*◌, ◌/◌, ◌%◌, ◌^◌, ◌<◌, ◌≤◌, Bool, true, false, ◌&&◌, ◌||◌}
use Rattle.std.proofs.Common.{not, cond, eqb, leb, ltb, List, [], ◌∷◌, ◌++◌, length, take, drop, Option, Some, None, inl, inr}
use Rattle.std.proofs.Common.{refl, sym, ◌∙◌, ap, subst, arith, append_assoc, append-nil, codes, add-one}
use Rattle.std.specs.Prelude.{All, IsTrue, decimal}
use Rattle.std.specs.Char.{is_ascii_alphabetic, is_ascii_alphanumeric, is_ascii_digit, is_ascii_hexdigit}
use Rattle.std.specs.List.{list_all, list_any, prefix_len}
use Rattle.std.specs.Str.Parse.{digits_value}
use Rattle.std.specs.Option.{option_and_then, option_map}
use Rattle.std.proofs.lemmas.Bool.{and_parts, and_from, and_right, or_from, or_parts, or_cases, or_left, or_right, not-true, ne_eqb, leb-true, lt-leb, lt-ltb}
use Rattle.std.proofs.lemmas.Fmt.{decimal_is_IsNumeral}
use Rattle.byte_text.proofs.NumberLaws.{decimal_digits}
use Rattle.std.proofs.lemmas.List.{take-append-le, drop-append-le, take_all}
use Rattle.author_text.specs.TextTokens.{FrontPiece, piece, byte_front, comment_front, front_piece, mark_front, text_front}
use Rattle.author_text.specs.TextTokens.{token_front, name_front, name_or_word, number_below, number_front, number_piece, hex_len, tokens_behind}
use Rattle.author_text.specs.Tokens.{TokenTree, number_token, name_token, word_token, mark_token}
use Rattle.author_text.specs.Words.{IsNameText, is_name_byte, is_name_or_word, is_word}

-- a text with these tokens
abbrev pub HasTokens : List ℕ → List TokenTree → Type 0
HasTokens text ts = tokens_behind 0 text ≡ Some ts

-- what is left of the first piece is passed
pub tokens_drop : (n : ℕ) (bs : List ℕ) → tokens_behind n bs ≡ tokens_behind 0 (drop n bs)
tokens_drop zero bs = refl
tokens_drop (suc n) [] = refl
tokens_drop (suc n) (b ∷ bs) = tokens_drop n bs

-- the first piece, and the tokens behind it
pub next_piece : (b : ℕ) (bs rest : List ℕ) (p : FrontPiece) (ts : List TokenTree) → front_piece (b ∷ bs) ≡ Some p → drop (p.len - 1) bs ≡ rest → HasTokens rest ts
    → HasTokens (b ∷ bs) (p.tokens ++ ts)
next_piece b bs rest p ts e d h =
    ap (option_and_then (λ q. option_map (λ us. q.tokens ++ us) (tokens_behind (q.len - 1) bs))) e
    ∙ ap (option_map (λ us. p.tokens ++ us)) (tokens_drop (p.len - 1) bs ∙ ap (tokens_behind 0) d ∙ h)

-- no byte of this kind stands first
abbrev pub halts : (ℕ → Bool) → List ℕ → Bool
halts p [] = true
halts p (b ∷ bs) = not (p b)

-- what no name goes on with
abbrev pub stops : List ℕ → Bool
stops rest = halts is_name_byte rest

pub run_len : (p : ℕ → Bool) (xs rest : List ℕ) → list_all p xs ≡ true → halts p rest ≡ true → prefix_len p (xs ++ rest) ≡ length xs
run_len p [] [] a h = refl
run_len p [] (b ∷ bs) a h = ap (λ v. cond v (1 + prefix_len p bs) 0) (not-true (p b) h)
run_len p (x ∷ xs) rest a h =
    let k = and_parts (p x) (list_all p xs) a in
    ap (λ v. cond v (1 + prefix_len p (xs ++ rest)) 0) k.0 ∙ omega (arith, run_len p xs rest k.1 h)

pub take_front : (xs rest : List ℕ) → take (length xs) (xs ++ rest) ≡ xs
take_front xs rest = take-append-le (length xs) xs rest (omega arith) ∙ take_all (length xs) xs (omega arith)

pub drop_front : (xs rest : List ℕ) → drop (length xs) (xs ++ rest) ≡ rest
drop_front [] rest = refl
drop_front (x ∷ xs) rest = drop_front xs rest

-- a digit is a byte of names
digit_named : (b : ℕ) → is_name_byte b ≡ false → is_ascii_digit b ≡ false
digit_named b h =
    let k = or_parts (is_ascii_alphanumeric b) (eqb b 95) h in
    (or_parts (is_ascii_digit b) (leb 65 b && leb b 90) (or_parts (is_ascii_digit b || (leb 65 b && leb b 90)) (leb 97 b && leb b 122) k.0).0).0

pub digits_stop : (rest : List ℕ) → stops rest ≡ true → halts is_ascii_digit rest ≡ true
digits_stop [] h = refl
digits_stop (b ∷ bs) h = ap not (digit_named b (not-true (is_name_byte b) h))

letter_low : (b : ℕ) → is_ascii_alphabetic b ≡ true → 65 ≤ b
letter_low b h =
    elim (or_cases (leb 65 b && leb b 90) (leb 97 b && leb b 122) h) [
      | inl u ↦ leb-true 65 b (and_parts (leb 65 b) (leb b 90) u).0
      | inr l ↦ let k = leb-true 97 b (and_parts (leb 97 b) (leb b 122) l).0 in omega (arith, k)
    ]

pub letter_named : (b : ℕ) → is_ascii_alphabetic b ≡ true → is_name_byte b ≡ true
letter_named b h =
    elim (or_cases (leb 65 b && leb b 90) (leb 97 b && leb b 122) h) [
      | inl u ↦ or_left (is_ascii_alphanumeric b) (eqb b 95) (or_left (is_ascii_digit b || (leb 65 b && leb b 90)) (leb 97 b && leb b 122) (or_right (is_ascii_digit b) (leb 65 b && leb b 90) u))
      | inr l ↦ or_left (is_ascii_alphanumeric b) (eqb b 95) (or_right (is_ascii_digit b || (leb 65 b && leb b 90)) (leb 97 b && leb b 122) l)
    ]

-- no blank, quote or `#`
record IsOther (b : ℕ) : Type 0 where
  line_end : eqb b 10 ≡ false
  space : eqb b 32 ≡ false
  tab : eqb b 9 ≡ false
  comment : eqb b 35 ≡ false
  quote : eqb b 34 ≡ false
  byte : eqb b 39 ≡ false

other_above : (b : ℕ) → 40 ≤ b → IsOther b
other_above b h = record {
  line_end = ne_eqb b 10 (λ e. omega (arith, e));
  space = ne_eqb b 32 (λ e. omega (arith, e));
  tab = ne_eqb b 9 (λ e. omega (arith, e));
  comment = ne_eqb b 35 (λ e. omega (arith, e));
  quote = ne_eqb b 34 (λ e. omega (arith, e));
  byte = ne_eqb b 39 (λ e. omega (arith, e));
}

-- a token stands there, and is neither a text nor a byte
other_piece : (b : ℕ) (bs : List ℕ) → IsOther b → front_piece (b ∷ bs) ≡ cond (is_ascii_digit b) (number_front (b ∷ bs)) (cond (is_ascii_alphabetic b) (name_front (b ∷ bs)) (mark_front (b ∷ bs)))
other_piece b bs o =
    let text = b ∷ bs in
    let blank : (eqb b 10 || eqb b 32 || eqb b 9) ≡ false = or_from (eqb b 10 || eqb b 32) (eqb b 9) (or_from (eqb b 10) (eqb b 32) o.line_end o.space) o.tab in
    ap (λ v. cond v (piece [] 1) (cond (eqb b 35) (comment_front text) (token_front text))) blank ∙ ap (λ v. cond v (comment_front text) (token_front text)) o.comment
    ∙ ap (λ v. cond v (text_front text) (cond (eqb b 39) (byte_front text) (cond (is_ascii_digit b) (number_front text)
    (cond (is_ascii_alphabetic b) (name_front text) (mark_front text))))) o.quote
    ∙ ap (λ v. cond v (byte_front text) (cond (is_ascii_digit b) (number_front text) (cond (is_ascii_alphabetic b) (name_front text) (mark_front text)))) o.byte

letter_piece : (b : ℕ) (bs : List ℕ) → is_ascii_alphabetic b ≡ true → front_piece (b ∷ bs) ≡ name_front (b ∷ bs)
letter_piece b bs h =
    let low = letter_low b h in
    let d : is_ascii_digit b ≡ false = and_right (leb 48 b) (leb b 57) (lt-leb b 57 (omega (arith, low))) in
    other_piece b bs (other_above b (omega (arith, low))) ∙ ap (λ v. cond v (number_front (b ∷ bs)) (cond (is_ascii_alphabetic b) (name_front (b ∷ bs)) (mark_front (b ∷ bs)))) d
    ∙ ap (λ v. cond v (name_front (b ∷ bs)) (mark_front (b ∷ bs))) h

digit_piece : (b : ℕ) (bs : List ℕ) → is_ascii_digit b ≡ true → front_piece (b ∷ bs) ≡ number_front (b ∷ bs)
digit_piece b bs h =
    let low = leb-true 48 b (and_parts (leb 48 b) (leb b 57) h).0 in
    other_piece b bs (other_above b (omega (arith, low))) ∙ ap (λ v. cond v (number_front (b ∷ bs)) (cond (is_ascii_alphabetic b) (name_front (b ∷ bs)) (mark_front (b ∷ bs)))) h

-- a text is read as these tokens, whatever stands behind it that goes on with no name
pub record ReadsAs (text : List ℕ) (tokens : List TokenTree) : Type 0 where
  pub reads : (rest : List ℕ) (ts : List TokenTree) → stops rest ≡ true → HasTokens rest ts → HasTokens (text ++ rest) (tokens ++ ts)

-- the same, whatever stands behind it
pub record ReadsAny (text : List ℕ) (tokens : List TokenTree) : Type 0 where
  pub reads : (rest : List ℕ) (ts : List TokenTree) → HasTokens rest ts → HasTokens (text ++ rest) (tokens ++ ts)

named_piece : (w rest : List ℕ) (b : ℕ) (bs : List ℕ) → w ≡ b ∷ bs → prefix_len is_name_byte (w ++ rest) ≡ length w
    → name_front (w ++ rest) ≡ Some (record { tokens = name_or_word w ∷ []; len = length w })
named_piece w rest b bs e n =
    ap (λ k. Some (record { tokens = name_or_word (take k (w ++ rest)) ∷ []; len = k })) n
    ∙ ap (λ t. Some (record { tokens = name_or_word t ∷ []; len = length w })) (take_front w rest)

-- what is left behind the first byte of a piece
behind_first : (x : ℕ) (xs rest : List ℕ) → drop (length (x ∷ xs) - 1) (xs ++ rest) ≡ rest
behind_first x xs rest = let e : length (x ∷ xs) - 1 ≡ length xs = omega arith in ap (λ n. drop n (xs ++ rest)) e ∙ drop_front xs rest

named_reads : (w : List ℕ) → is_name_or_word w ≡ true → ReadsAs w (name_or_word w ∷ [])
named_reads [] h = absurd (cc)
named_reads (b ∷ bs) h =
    let k = and_parts (is_ascii_alphabetic b) (list_all is_name_byte bs) h in
    let all : list_all is_name_byte (b ∷ bs) ≡ true = and_from (is_name_byte b) (list_all is_name_byte bs) (letter_named b k.0) k.1 in
    record {
      reads = λ rest ts s t.
          next_piece b (bs ++ rest) rest (record { tokens = name_or_word (b ∷ bs) ∷ []; len = length (b ∷ bs) }) ts
          (letter_piece b (bs ++ rest) k.0 ∙ named_piece (b ∷ bs) rest b bs refl (run_len is_name_byte (b ∷ bs) rest all s)) (behind_first b bs rest) t;
    }

pub word_reads : (w : List ℕ) → is_name_or_word w ≡ true → is_word w ≡ true → ReadsAs w (word_token w ∷ [])
word_reads w h e = subst (λ t. ReadsAs w (t ∷ [])) (ap (λ v. cond v (word_token w) (name_token w)) e) (named_reads w h)

pub name_reads : (w : List ℕ) → IsNameText w → ReadsAs w (name_token w ∷ [])
name_reads w h = subst (λ t. ReadsAs w (t ∷ [])) (ap (λ v. cond v (word_token w) (name_token w)) h.1) (named_reads w h.0)

-- the name of a filter
pub filter_name_reads : (w : List ℕ) → is_name_or_word w ≡ true → ReadsAs w (name_or_word w ∷ [])
filter_name_reads w h = named_reads w h

-- digits with no name behind them begin no hexadecimal number
hex_none : (d : ℕ) (ds rest : List ℕ) → list_all is_ascii_digit ds ≡ true → stops rest ≡ true → hex_len (d ∷ (ds ++ rest)) ≡ 0
hex_none d [] [] a s = refl
hex_none d [] (r ∷ rs) a s =
    let n : eqb r 120 ≡ false = ne_eqb r 120 (λ e. let k : is_name_byte 120 ≡ false = subst (λ x. is_name_byte x ≡ false) e (not-true (is_name_byte r) s) in absurd (cc (k))) in
    ap (λ v. cond (eqb d 48 && v) (prefix_len is_ascii_hexdigit rs) 0) n ∙ ap (λ v. cond v (prefix_len is_ascii_hexdigit rs) 0) (and_right (eqb d 48) false refl)
hex_none d (e ∷ es) rest a s =
    let k = and_parts (leb 48 e) (leb e 57) (and_parts (is_ascii_digit e) (list_all is_ascii_digit es) a).0 in
    let high = leb-true e 57 k.1 in
    let n : eqb e 120 ≡ false = ne_eqb e 120 (λ q. omega (arith, q, high)) in
    ap (λ v. cond (eqb d 48 && v) (prefix_len is_ascii_hexdigit (es ++ rest)) 0) n
    ∙ ap (λ v. cond v (prefix_len is_ascii_hexdigit (es ++ rest)) 0) (and_right (eqb d 48) false refl)

digits_front : (d : ℕ) (ds rest : List ℕ) (n : ℕ) → list_all is_ascii_digit (d ∷ ds) ≡ true → digits_value 10 (d ∷ ds) ≡ n → n < 2 ^ 32 → stops rest ≡ true
    → number_front ((d ∷ ds) ++ rest) ≡ Some (record { tokens = number_token n ∷ []; len = length (d ∷ ds) })
digits_front d ds rest n all v low s =
    let text = (d ∷ ds) ++ rest in
    let none = hex_none d ds rest (and_parts (is_ascii_digit d) (list_all is_ascii_digit ds) all).1 s in
    ap (λ h. cond (ltb 0 h) (number_piece (number_below 16 (take h (drop 2 text))) (h + 2)) (number_piece
    (number_below 10 (take (prefix_len is_ascii_digit text) text)) (prefix_len is_ascii_digit text))) none
    ∙ ap (λ k. number_piece (number_below 10 (take k text)) k) (run_len is_ascii_digit (d ∷ ds) rest all (digits_stop rest s))
    ∙ ap (λ x. number_piece (number_below 10 x) (length (d ∷ ds))) (take_front (d ∷ ds) rest)
    ∙ ap (λ x. number_piece (cond (ltb x (2 ^ 32)) (Some x) None) (length (d ∷ ds))) v
    ∙ ap (λ x. number_piece (cond x (Some n) None) (length (d ∷ ds))) (lt-ltb n (2 ^ 32) low)

digits_read : (ds : List ℕ) (n : ℕ) → list_all is_ascii_digit ds ≡ true → digits_value 10 ds ≡ n → n < 2 ^ 32 → 0 < length ds → ReadsAs ds (number_token n ∷ [])
digits_read [] n all v low some = absurd (omega arith)
digits_read (d ∷ ds) n all v low some = record {
  reads = λ rest ts s t.
      next_piece d (ds ++ rest) rest (record { tokens = number_token n ∷ []; len = length (d ∷ ds) }) ts
      (digit_piece d (ds ++ rest) (and_parts (is_ascii_digit d) (list_all is_ascii_digit ds) all).0 ∙ digits_front d ds rest n all v low s) (behind_first d ds rest) t;
}

pub number_reads : (n : ℕ) → n < 2 ^ 32 → ReadsAs (decimal n) (number_token n ∷ [])
number_reads n low =
    let k = decimal_is_IsNumeral n (omega arith) in
    digits_read (decimal n) n (decimal_digits n low) k.1 low k.0.0

-- a blank or a line end
pub space_reads : ReadsAny (32 ∷ []) []
space_reads = record { reads = λ rest ts t. next_piece 32 rest rest (record { tokens = []; len = 1 }) ts refl refl t }

pub line_end_reads : ReadsAny (10 ∷ []) []
line_end_reads = record { reads = λ rest ts t. next_piece 10 rest rest (record { tokens = []; len = 1 }) ts refl refl t }

-- a mark of one byte
abbrev pub one_mark : ℕ → FrontPiece
one_mark a = record { tokens = mark_token (a ∷ []) ∷ []; len = 1 }

-- a mark that no byte makes longer
bracket_reads : (a : ℕ) → front_piece (a ∷ []) ≡ Some (one_mark a) → ((b : ℕ) (bs : List ℕ) → front_piece (a ∷ b ∷ bs) ≡ Some (one_mark a)) → ReadsAny (a ∷ []) (mark_token (a ∷ []) ∷ [])
bracket_reads a e m = record { reads = λ rest ts t. by_rest rest ts t }
  where
    by_rest : (rest : List ℕ) (ts : List TokenTree) → HasTokens rest ts → HasTokens (a ∷ rest) (mark_token (a ∷ []) ∷ ts)
    by_rest [] ts t = next_piece a [] [] (one_mark a) ts e refl t
    by_rest (b ∷ bs) ts t = next_piece a (b ∷ bs) (b ∷ bs) (one_mark a) ts (m b bs) refl t

pub open_reads : ReadsAny (codes "(") (mark_token (codes "(") ∷ [])
open_reads = bracket_reads 40 refl (λ b bs. refl)

pub close_reads : ReadsAny (codes ")") (mark_token (codes ")") ∷ [])
close_reads = bracket_reads 41 refl (λ b bs. refl)

pub open_index_reads : ReadsAny (codes "[") (mark_token (codes "[") ∷ [])
open_index_reads = bracket_reads 91 refl (λ b bs. refl)

pub close_index_reads : ReadsAny (codes "]") (mark_token (codes "]") ∷ [])
close_index_reads = bracket_reads 93 refl (λ b bs. refl)

pub open_block_reads : ReadsAny (codes "{") (mark_token (codes "{") ∷ [])
open_block_reads = bracket_reads 123 refl (λ b bs. refl)

pub close_block_reads : ReadsAny (codes "}") (mark_token (codes "}") ∷ [])
close_block_reads = bracket_reads 125 refl (λ b bs. refl)

pub comma_reads : ReadsAny (codes ",") (mark_token (codes ",") ∷ [])
comma_reads = bracket_reads 44 refl (λ b bs. refl)

-- a mark with a blank behind it
pub mark_reads : (a : ℕ) → ((rest : List ℕ) → front_piece (a ∷ 32 ∷ rest) ≡ Some (one_mark a)) → ReadsAny (a ∷ 32 ∷ []) (mark_token (a ∷ []) ∷ [])
mark_reads a e = record { reads = λ rest ts t. next_piece a (32 ∷ rest) (32 ∷ rest) (one_mark a) ts (e rest) refl (space_reads.reads rest ts t) }

pub pair_reads : (a b : ℕ) → ((rest : List ℕ) → front_piece (a ∷ b ∷ 32 ∷ rest) ≡ Some (record { tokens = mark_token (a ∷ b ∷ []) ∷ []; len = 2 }))
    → ReadsAny (a ∷ b ∷ 32 ∷ []) (mark_token (a ∷ b ∷ []) ∷ [])
pair_reads a b e = record {
  reads = λ rest ts t.
      next_piece a (b ∷ 32 ∷ rest) (32 ∷ rest) (record { tokens = mark_token (a ∷ b ∷ []) ∷ []; len = 2 }) ts (e rest) refl (space_reads.reads rest ts t);
}

-- one after another
pub any_any : {a b : List ℕ} {x y : List TokenTree} → ReadsAny a x → ReadsAny b y → ReadsAny (a ++ b) (x ++ y)
any_any {a} {b} {x} {y} p q = record {
  reads = λ rest ts t. ap (tokens_behind 0) (append_assoc a b rest) ∙ p.reads (b ++ rest) (y ++ ts) (q.reads rest ts t) ∙ ap Some (sym (append_assoc x y ts));
}

pub any_as : {a b : List ℕ} {x y : List TokenTree} → ReadsAny a x → ReadsAs b y → ReadsAs (a ++ b) (x ++ y)
any_as {a} {b} {x} {y} p q = record {
  reads = λ rest ts s t. ap (tokens_behind 0) (append_assoc a b rest) ∙ p.reads (b ++ rest) (y ++ ts) (q.reads rest ts s t) ∙ ap Some (sym (append_assoc x y ts));
}

-- whether a text begins with a byte that no name goes on with
abbrev pub begins_apart : List ℕ → Bool
begins_apart [] = false
begins_apart (b ∷ bs) = not (is_name_byte b)

stops_apart : (b rest : List ℕ) → begins_apart b ≡ true → stops (b ++ rest) ≡ true
stops_apart [] rest h = absurd (cc)
stops_apart (c ∷ cs) rest h = h

stops_both : (b rest : List ℕ) → stops b ≡ true → stops rest ≡ true → stops (b ++ rest) ≡ true
stops_both [] rest h s = s
stops_both (c ∷ cs) rest h s = h

pub as_any : {a b : List ℕ} {x y : List TokenTree} → ReadsAs a x → ReadsAny b y → begins_apart b ≡ true → ReadsAny (a ++ b) (x ++ y)
as_any {a} {b} {x} {y} p q h = record {
  reads = λ rest ts t.
      ap (tokens_behind 0) (append_assoc a b rest) ∙ p.reads (b ++ rest) (y ++ ts) (stops_apart b rest h) (q.reads rest ts t) ∙ ap Some (sym (append_assoc x y ts));
}

pub as_as : {a b : List ℕ} {x y : List TokenTree} → ReadsAs a x → ReadsAs b y → stops b ≡ true → ReadsAs (a ++ b) (x ++ y)
as_as {a} {b} {x} {y} p q h = record {
  reads = λ rest ts s t.
      ap (tokens_behind 0) (append_assoc a b rest) ∙ p.reads (b ++ rest) (y ++ ts) (stops_both b rest h s) (q.reads rest ts s t) ∙ ap Some (sym (append_assoc x y ts));
}

pub weak : {a : List ℕ} {x : List TokenTree} → ReadsAny a x → ReadsAs a x
weak {a} {x} p = record { reads = λ rest ts s t. p.reads rest ts t }

pub nothing_reads : ReadsAny [] []
nothing_reads = record { reads = λ rest ts t. t }

-- with a blank or a line end behind it
pub as_space : {a : List ℕ} {x : List TokenTree} → ReadsAs a x → ReadsAny (a ++ codes " ") x
as_space {a} {x} p = subst (λ ts. ReadsAny (a ++ codes " ") ts) (append-nil x) (as_any p space_reads refl)

pub as_line : {a : List ℕ} {x : List TokenTree} → ReadsAs a x → ReadsAny (a ++ (10 ∷ [])) x
as_line {a} {x} p = subst (λ ts. ReadsAny (a ++ (10 ∷ [])) ts) (append-nil x) (as_any p line_end_reads refl)

-- a word and a blank
pub word_space : (w : List ℕ) → is_name_or_word w ≡ true → is_word w ≡ true → ReadsAny (w ++ codes " ") (word_token w ∷ [])
word_space w h e = as_space (word_reads w h e)

-- the same between blanks
pub spaced_word : (w : List ℕ) → is_name_or_word w ≡ true → is_word w ≡ true → ReadsAny (codes " " ++ (w ++ codes " ")) (word_token w ∷ [])
spaced_word w h e = any_any space_reads (word_space w h e)

-- the whole of a text
pub whole_reads : {a : List ℕ} {x : List TokenTree} → ReadsAny a x → HasTokens a x
whole_reads {a} {x} p = ap (tokens_behind 0) (sym (append-nil a)) ∙ p.reads [] [] refl ∙ ap Some (append-nil x)
