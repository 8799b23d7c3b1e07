-- What the front of a text in quotes spells, and where the text ends.
use Rattle.std.proofs.Common.{◌≡◌, ℕ, zero, suc, ◌+◌, ◌-◌, ◌*◌, ◌<◌, ◌≤◌, Bool, true, false, ◌&&◌, ◌||◌, not, cond, eqb, leb, List, [], ◌∷◌, ◌++◌, length, take, drop, Option, Some, None, ◌⊎◌}
use Rattle.std.proofs.Common.{refl, sym, ◌∙◌, ap, subst, arith, inl, inr}
use Rattle.std.specs.Option.{option_and_then, option_map}
use Rattle.std.proofs.lemmas.Bool.{and_parts, and_from, and_right, cases_Bool, eqb-true, eqb-false, ne_eqb, leb-true, not_from_true, not_from_false}
use Rattle.author_text.specs.declared.escape.Spelled.{Spelled}
use Rattle.author_text.specs.declared.escape.Spelled.TheVariants as spelled
use Rattle.author_text.specs.Escapes.{may_stand, hex_value, hex_byte, escaped, spelled_in, escape_front, front_spelled}
use Rattle.author_text.specs.TextTokens.{spelled_len, len_to_end}
use Rattle.author_text.specs.Scanning.{len_to_quote, is_wrong, bytes_of, is_clean}

-- one byte at least, and four at most
abbrev pub IsShort : Spelled → Type 0
IsShort (spelled.Byte b n) = (1 ≤ n) × (n ≤ 4)
IsShort (spelled.NoEscape b) = Unit {0}
IsShort spelled.Nothing = Unit {0}

in_short : (letter n : ℕ) (o : Option ℕ) → 1 ≤ n → n ≤ 4 → IsShort (spelled_in letter n o)
in_short letter n None a b = tt
in_short letter n (Some v) a b = (a, b)

escape_short : (bs : List ℕ) → IsShort (escape_front bs)
escape_short [] = tt
escape_short (b ∷ bs) = by_case (eqb b 120)
  where
    by_case : (v : Bool) → IsShort (cond v (spelled_in 120 4 (hex_byte bs)) (spelled_in b 2 (escaped b)))
    by_case true = in_short 120 4 (hex_byte bs) (omega arith) (omega arith)
    by_case false = in_short b 2 (escaped b) (omega arith) (omega arith)

pub front_short : (bs : List ℕ) → IsShort (front_spelled bs)
front_short [] = tt
front_short (b ∷ bs) = by_case (eqb b 92)
  where
    by_case : (v : Bool) → IsShort (cond v (escape_front bs) (spelled.Byte b 1))
    by_case true = escape_short bs
    by_case false = (omega arith, omega arith)

pub short_byte : (s : Spelled) (b n : ℕ) → s ≡ spelled.Byte b n → IsShort s → (1 ≤ n) × (n ≤ 4)
short_byte (spelled.Byte c m) b n e h = let k : m ≡ n = cc in (omega (arith, k, h.0), omega (arith, k, h.1))
short_byte (spelled.NoEscape c) b n e h = absurd (cc)
short_byte spelled.Nothing b n e h = absurd (cc)

pub clean_drop : (n : ℕ) (bs : List ℕ) → is_clean n bs ≡ is_clean 0 (drop n bs)
clean_drop zero bs = refl
clean_drop (suc n) [] = refl
clean_drop (suc n) (b ∷ bs) = clean_drop n bs

-- what a byte that is spelled well leaves to be looked at
pub clean_byte : (bs : List ℕ) (b n : ℕ) → front_spelled bs ≡ spelled.Byte b n → is_clean 0 bs ≡ (not (is_wrong (spelled.Byte b n)) && is_clean 0 (drop n bs))
clean_byte [] b n e = absurd (cc)
clean_byte (x ∷ xs) b n e =
    let k = short_byte (front_spelled (x ∷ xs)) b n e (front_short (x ∷ xs)) in
    ap (λ s. not (is_wrong s) && is_clean (bytes_of s - 1) xs) e ∙ ap (λ c. not (is_wrong (spelled.Byte b n)) && c) (clean_drop (n - 1) xs ∙ less n xs k.0)
  where
    less : (m : ℕ) (ys : List ℕ) → 1 ≤ m → is_clean 0 (drop (m - 1) ys) ≡ is_clean 0 (drop m (x ∷ ys))
    less zero ys h = absurd (omega arith)
    less (suc m) ys h = let e : suc m - 1 ≡ m = omega arith in ap (λ j. is_clean 0 (drop j ys)) e

pub clean_wrong : (bs : List ℕ) (b : ℕ) → front_spelled bs ≡ spelled.NoEscape b → is_clean 0 bs ≡ false
clean_wrong [] b e = absurd (cc)
clean_wrong (x ∷ xs) b e = ap (λ s. not (is_wrong s) && is_clean (bytes_of s - 1) xs) e

pub clean_nothing : (bs : List ℕ) → front_spelled bs ≡ spelled.Nothing → is_clean 0 bs ≡ true
clean_nothing [] e = refl
clean_nothing (x ∷ xs) e = ap (λ s. not (is_wrong s) && is_clean (bytes_of s - 1) xs) e ∙ lone xs e
  where
    in_none : (letter n : ℕ) (o : Option ℕ) → spelled_in letter n o ≡ spelled.Nothing → ⊥
    in_none letter n None e = cc
    in_none letter n (Some v) e = cc

    lone : (ys : List ℕ) → front_spelled (x ∷ ys) ≡ spelled.Nothing → is_clean 0 ys ≡ true
    lone [] e = refl
    lone (y ∷ ys) e = absurd (by_case (eqb x 92) (eqb y 120) e)
      where
        by_case : (u v : Bool) → cond u (cond v (spelled_in 120 4 (hex_byte ys)) (spelled_in y 2 (escaped y))) (spelled.Byte x 1) ≡ spelled.Nothing → ⊥
        by_case true true e = in_none 120 4 (hex_byte ys) e
        by_case true false e = in_none y 2 (escaped y) e
        by_case false v e = cc

-- what `check_text` makes of the length that `len_to_quote` gives
abbrev pub checked : List ℕ → Option ℕ → Option ℕ
checked bs o = option_and_then (λ n. cond (is_clean 0 (take n bs)) (Some n) None) o

-- some bytes more in front, which are spelled well or not
grown : (f : ℕ → ℕ) (bs text : List ℕ) (c : Bool) (o : Option ℕ) → ((k : ℕ) → is_clean 0 (take (f k) text) ≡ (c && is_clean 0 (take k bs)))
    → checked text (option_map f o) ≡ cond c (option_map f (checked bs o)) None
grown f bs text true None h = refl
grown f bs text false None h = refl
grown f bs text c (Some k) h = ap (λ v. cond v (Some (f k)) None) (h k) ∙ by_case c (is_clean 0 (take k bs))
  where
    by_case : (u v : Bool) → cond (u && v) (Some (f k)) None ≡ cond u (option_map f (cond v (Some k) None)) None
    by_case true true = refl
    by_case true false = refl
    by_case false v = refl

two_more : (o : Option ℕ) → option_map suc (option_map suc o) ≡ option_map (λ k. suc (suc k)) o
two_more None = refl
two_more (Some k) = refl

four_more : (o : Option ℕ) → option_map suc (option_map suc (option_map suc (option_map suc o))) ≡ option_map (λ k. suc (suc (suc (suc k)))) o
four_more None = refl
four_more (Some k) = refl

-- where the text ends is where its quote is, if each byte before it is spelled well
abbrev EndsAtQuote : List ℕ → Type 0
EndsAtQuote bs = len_to_end 0 bs ≡ checked bs (len_to_quote false bs)

-- a byte that stands for itself, or may not stand in a text
plain_end : (b : ℕ) (bs : List ℕ) → eqb b 92 ≡ false → eqb b 34 ≡ false → eqb b 10 ≡ false → EndsAtQuote bs → EndsAtQuote (b ∷ bs)
plain_end b bs back quote line next =
    left ∙ by_case (may_stand b) refl ∙ sym (right ∙ grown suc bs (b ∷ bs) (may_stand b) (len_to_quote false bs) clean)
  where
    front : (ys : List ℕ) → front_spelled (b ∷ ys) ≡ spelled.Byte b 1
    front ys = ap (λ v. cond v (escape_front ys) (spelled.Byte b 1)) back

    left : len_to_end 0 (b ∷ bs) ≡ option_and_then (λ n. option_map suc (len_to_end (n - 1) bs)) (cond (not (may_stand b)) None (Some 1))
    left =
        ap (λ v. cond v (Some 0) (option_and_then (λ n. option_map suc (len_to_end (n - 1) bs)) (spelled_len (front_spelled (b ∷ bs))))) quote
        ∙ ap (λ s. option_and_then (λ n. option_map suc (len_to_end (n - 1) bs)) (spelled_len s)) (front bs)

    right : checked (b ∷ bs) (len_to_quote false (b ∷ bs)) ≡ checked (b ∷ bs) (option_map suc (len_to_quote false bs))
    right =
        ap (λ v. checked (b ∷ bs) (cond v None (cond (eqb b 34 && true) (Some 0) (option_map suc (len_to_quote (eqb b 92 && true) bs))))) line
        ∙ ap (λ v. checked (b ∷ bs) (cond (v && true) (Some 0) (option_map suc (len_to_quote (eqb b 92 && true) bs)))) quote
        ∙ ap (λ v. checked (b ∷ bs) (option_map suc (len_to_quote (v && true) bs))) back

    twice : (v : Bool) → not (not v) ≡ v
    twice true = refl
    twice false = refl

    clean : (k : ℕ) → is_clean 0 (take (suc k) (b ∷ bs)) ≡ (may_stand b && is_clean 0 (take k bs))
    clean k =
        ap (λ s. not (is_wrong s) && is_clean (bytes_of s - 1) (take k bs)) (front (take k bs)) ∙ ap (λ v. v && is_clean 0 (take k bs)) (twice (may_stand b))

    by_case : (v : Bool) → may_stand b ≡ v
        → option_and_then (λ n. option_map suc (len_to_end (n - 1) bs)) (cond (not (may_stand b)) None (Some 1)) ≡ cond (may_stand b) (option_map suc (checked bs (len_to_quote false bs))) None
    by_case true e =
        ap (λ v. option_and_then (λ n. option_map suc (len_to_end (n - 1) bs)) (cond (not v) None (Some 1))) e ∙ ap (option_map suc) next
        ∙ sym (ap (λ v. cond v (option_map suc (checked bs (len_to_quote false bs))) None) e)
    by_case false e =
        ap (λ v. option_and_then (λ n. option_map suc (len_to_end (n - 1) bs)) (cond (not v) None (Some 1))) e
        ∙ sym (ap (λ v. cond v (option_map suc (checked bs (len_to_quote false bs))) None) e)

-- a hexadecimal digit is no line end, no quote and no backslash
record IsUnescaped (b : ℕ) : Type 0 where
  line : eqb b 10 ≡ false
  quote : eqb b 34 ≡ false
  back : eqb b 92 ≡ false

plain_in : (low high b : ℕ) → (leb low b && leb b high) ≡ true → 35 ≤ low → (92 < low) ⊎ (high < 92) → IsUnescaped b
plain_in low high b h a o =
    let k = and_parts (leb low b) (leb b high) h in
    let l = leb-true low b k.0 in
    let u = leb-true b high k.1 in
    record {
      line = ne_eqb b 10 (λ e. omega (arith, e, l));
      quote = ne_eqb b 34 (λ e. omega (arith, e, l));
      back = ne_eqb b 92 (λ e. elim o [ inl x ↦ omega (arith, e, l, x) | inr x ↦ omega (arith, e, u, x) ]);
    }

hex_plain : (b d : ℕ) → hex_value b ≡ Some d → IsUnescaped b
hex_plain b d e = by_case (leb 48 b && leb b 57) (leb 97 b && leb b 102) (leb 65 b && leb b 70) refl refl refl e
  where
    by_case : (x y z : Bool) → (leb 48 b && leb b 57) ≡ x → (leb 97 b && leb b 102) ≡ y → (leb 65 b && leb b 70) ≡ z
        → cond x (Some (b - 48)) (cond y (Some (b - 97 + 10)) (cond z (Some (b - 65 + 10)) None)) ≡ Some d → IsUnescaped b
    by_case true y z p q r e = plain_in 48 57 b p (omega arith) (inr (omega arith))
    by_case false true z p q r e = plain_in 97 102 b q (omega arith) (inl (omega arith))
    by_case false false true p q r e = plain_in 65 70 b r (omega arith) (inr (omega arith))
    by_case false false false p q r e = absurd (cc)

-- both digits of a byte
hex_both : (h l v : ℕ) (rest : List ℕ) → hex_byte (h ∷ l ∷ rest) ≡ Some v → IsUnescaped h × IsUnescaped l
hex_both h l v rest e = by_case (hex_value h) (hex_value l) refl refl e
  where
    by_case : (x y : Option ℕ) → hex_value h ≡ x → hex_value l ≡ y → option_and_then (λ m. option_map (λ n. 16 * m + n) y) x ≡ Some v → IsUnescaped h × IsUnescaped l
    by_case None y p q e = absurd (cc)
    by_case (Some m) None p q e = absurd (cc)
    by_case (Some m) (Some n) p q e = (hex_plain h m p, hex_plain l n q)

hex_less : (bs : List ℕ) (k : ℕ) → hex_byte bs ≡ None → hex_byte (take k bs) ≡ None
hex_less bs zero e = refl
hex_less [] (suc k) e = refl
hex_less (h ∷ bs) (suc zero) e = refl
hex_less (h ∷ []) (suc (suc k)) e = refl
hex_less (h ∷ l ∷ bs) (suc (suc k)) e = e

plain_quote : (b : ℕ) (bs : List ℕ) → IsUnescaped b → len_to_quote false (b ∷ bs) ≡ option_map suc (len_to_quote false bs)
plain_quote b bs p =
    ap (λ v. cond v None (cond (eqb b 34 && true) (Some 0) (option_map suc (len_to_quote (eqb b 92 && true) bs)))) p.line
    ∙ ap (λ v. cond (v && true) (Some 0) (option_map suc (len_to_quote (eqb b 92 && true) bs))) p.quote
    ∙ ap (λ v. option_map suc (len_to_quote (v && true) bs)) p.back

-- `\xHH`
hex_end : (h l v : ℕ) (rest : List ℕ) → hex_byte (h ∷ l ∷ rest) ≡ Some v → EndsAtQuote rest → EndsAtQuote (92 ∷ 120 ∷ h ∷ l ∷ rest)
hex_end h l v rest e next =
    ap (λ o. option_and_then (λ n. option_map suc (len_to_end (n - 1) (120 ∷ h ∷ l ∷ rest))) (spelled_len (spelled_in 120 4 o))) e
    ∙ four_more (len_to_end 0 rest) ∙ ap (option_map (λ k. suc (suc (suc (suc k))))) next
    ∙ sym (quote ∙ grown (λ k. suc (suc (suc (suc k)))) rest (92 ∷ 120 ∷ h ∷ l ∷ rest) true (len_to_quote false rest) clean)
  where
    quote : checked (92 ∷ 120 ∷ h ∷ l ∷ rest) (len_to_quote false (92 ∷ 120 ∷ h ∷ l ∷ rest))
        ≡ checked (92 ∷ 120 ∷ h ∷ l ∷ rest) (option_map (λ k. suc (suc (suc (suc k)))) (len_to_quote false rest))
    quote =
        let p = hex_both h l v rest e in
        ap (λ o. checked (92 ∷ 120 ∷ h ∷ l ∷ rest) (option_map suc (option_map suc o))) (plain_quote h (l ∷ rest) p.0 ∙ ap (option_map suc) (plain_quote l rest p.1))
        ∙ ap (checked (92 ∷ 120 ∷ h ∷ l ∷ rest)) (four_more (len_to_quote false rest))

    clean : (k : ℕ) → is_clean 0 (take (suc (suc (suc (suc k)))) (92 ∷ 120 ∷ h ∷ l ∷ rest)) ≡ (true && is_clean 0 (take k rest))
    clean k =
        ap (λ o. not (is_wrong (spelled_in 120 4 o)) && is_clean (bytes_of (spelled_in 120 4 o) - 1) (120 ∷ h ∷ l ∷ take k rest)) e

no_hex_end : (bs : List ℕ) → hex_byte bs ≡ None → EndsAtQuote (92 ∷ 120 ∷ bs)
no_hex_end bs e =
    ap (λ o. option_and_then (λ n. option_map suc (len_to_end (n - 1) (120 ∷ bs))) (spelled_len (spelled_in 120 4 o))) e
    ∙ sym (ap (checked (92 ∷ 120 ∷ bs)) (two_more (len_to_quote false bs)) ∙ grown (λ k. suc (suc k)) bs (92 ∷ 120 ∷ bs) false (len_to_quote false bs) clean)
  where
    clean : (k : ℕ) → is_clean 0 (take (suc (suc k)) (92 ∷ 120 ∷ bs)) ≡ (false && is_clean 0 (take k bs))
    clean k = ap (λ o. not (is_wrong (spelled_in 120 4 o)) && is_clean (bytes_of (spelled_in 120 4 o) - 1) (120 ∷ take k bs)) (hex_less bs k e)

-- another letter behind a backslash
letter_end : (b : ℕ) (bs : List ℕ) → eqb b 120 ≡ false → EndsAtQuote bs → EndsAtQuote (92 ∷ b ∷ bs)
letter_end b bs x next = by_case (eqb b 10) refl
  where
    front : (ys : List ℕ) → front_spelled (92 ∷ b ∷ ys) ≡ spelled_in b 2 (escaped b)
    front ys = ap (λ v. cond v (spelled_in 120 4 (hex_byte ys)) (spelled_in b 2 (escaped b))) x

    quote : eqb b 10 ≡ false → len_to_quote false (92 ∷ b ∷ bs) ≡ option_map (λ k. suc (suc k)) (len_to_quote false bs)
    quote n =
        ap (λ v. option_map suc (cond v None (cond (eqb b 34 && false) (Some 0) (option_map suc (len_to_quote (eqb b 92 && false) bs))))) n
        ∙ ap (λ v. option_map suc (cond v (Some 0) (option_map suc (len_to_quote (eqb b 92 && false) bs)))) (and_right (eqb b 34) false refl)
        ∙ ap (λ v. option_map suc (option_map suc (len_to_quote v bs))) (and_right (eqb b 92) false refl)
        ∙ two_more (len_to_quote false bs)

    left : (o : Option ℕ) → escaped b ≡ o → len_to_end 0 (92 ∷ b ∷ bs) ≡ option_and_then (λ n. option_map suc (len_to_end (n - 1) (b ∷ bs))) (spelled_len (spelled_in b 2 o))
    left o e = ap (λ s. option_and_then (λ n. option_map suc (len_to_end (n - 1) (b ∷ bs))) (spelled_len s)) (front bs ∙ ap (spelled_in b 2) e)

    clean : (o : Option ℕ) → escaped b ≡ o → (k : ℕ) → is_clean 0 (take (suc (suc k)) (92 ∷ b ∷ bs))
        ≡ (not (is_wrong (spelled_in b 2 o)) && is_clean (bytes_of (spelled_in b 2 o) - 1) (b ∷ take k bs))
    clean o e k = ap (λ s. not (is_wrong s) && is_clean (bytes_of s - 1) (b ∷ take k bs)) (front (take k bs) ∙ ap (spelled_in b 2) e)

    by_value : eqb b 10 ≡ false → (o : Option ℕ) → escaped b ≡ o → EndsAtQuote (92 ∷ b ∷ bs)
    by_value n None e =
        left None e ∙ sym (ap (checked (92 ∷ b ∷ bs)) (quote n) ∙ grown (λ k. suc (suc k)) bs (92 ∷ b ∷ bs) false (len_to_quote false bs) (clean None e))
    by_value n (Some v) e =
        left (Some v) e ∙ two_more (len_to_end 0 bs) ∙ ap (option_map (λ k. suc (suc k))) next
        ∙ sym (ap (checked (92 ∷ b ∷ bs)) (quote n) ∙ grown (λ k. suc (suc k)) bs (92 ∷ b ∷ bs) true (len_to_quote false bs) (clean (Some v) e))

    by_case : (v : Bool) → eqb b 10 ≡ v → EndsAtQuote (92 ∷ b ∷ bs)
    by_case true n = let e = eqb-true b 10 n in subst (λ c. EndsAtQuote (92 ∷ c ∷ bs)) (sym e) refl
    by_case false n = by_value n (escaped b) refl

escape_end : (bs : List ℕ) → EndsAtQuote (drop 1 bs) → EndsAtQuote (drop 3 bs) → EndsAtQuote (92 ∷ bs)
escape_end [] one three = refl
escape_end (b ∷ bs) one three = by_case (eqb b 120) refl
  where
    by_hex : (cs : List ℕ) → EndsAtQuote (drop 2 cs) → (o : Option ℕ) → hex_byte cs ≡ o → EndsAtQuote (92 ∷ 120 ∷ cs)
    by_hex cs h None e = no_hex_end cs e
    by_hex [] h (Some v) e = absurd (cc)
    by_hex (c ∷ []) h (Some v) e = absurd (cc)
    by_hex (c ∷ d ∷ cs) h (Some v) e = hex_end c d v cs e h

    by_case : (v : Bool) → eqb b 120 ≡ v → EndsAtQuote (92 ∷ b ∷ bs)
    by_case true x = subst (λ c. EndsAtQuote (92 ∷ c ∷ bs)) (sym (eqb-true b 120 x)) (by_hex bs three (hex_byte bs) refl)
    by_case false x = letter_end b bs x one

step_end : (b : ℕ) (bs : List ℕ) → EndsAtQuote bs → EndsAtQuote (drop 1 bs) → EndsAtQuote (drop 3 bs) → EndsAtQuote (b ∷ bs)
step_end b bs next one three = by_case (eqb b 92) (eqb b 34) (eqb b 10) refl refl refl
  where
    by_case : (x y z : Bool) → eqb b 92 ≡ x → eqb b 34 ≡ y → eqb b 10 ≡ z → EndsAtQuote (b ∷ bs)
    by_case true y z p q r = subst (λ c. EndsAtQuote (c ∷ bs)) (sym (eqb-true b 92 p)) (escape_end bs one three)
    by_case false true z p q r = subst (λ c. EndsAtQuote (c ∷ bs)) (sym (eqb-true b 34 q)) refl
    by_case false false true p q r = subst (λ c. EndsAtQuote (c ∷ bs)) (sym (eqb-true b 10 r)) refl
    by_case false false false p q r = plain_end b bs p q r next

ends : (bs : List ℕ) → EndsAtQuote bs × EndsAtQuote (drop 1 bs) × EndsAtQuote (drop 2 bs) × EndsAtQuote (drop 3 bs)
ends [] = (refl, refl, refl, refl)
ends (b ∷ bs) = let k = ends bs in (step_end b bs k.0 k.1 k.3, k.0, k.1, k.2)

pub ends_at_quote : (bs : List ℕ) → EndsAtQuote bs
ends_at_quote bs = (ends bs).0
