-- A text in quotes as it is printed is read up to its end.
use Rattle.std.proofs.Common.{◌≡◌, ℕ, zero, suc, ◌+◌, ◌-◌, ◌*◌, ◌/◌, ◌%◌, ◌<◌, ◌≤◌, Bool, true, false, ◌&&◌}
use Rattle.std.proofs.Common.{◌||◌, not, cond, eqb, leb, ltb, List, [], ◌∷◌, ◌++◌, length, take, drop, Option, Some, None}
use Rattle.std.proofs.Common.{refl, sym, ◌∙◌, ap, subst, arith, append_assoc, length-append}
use Rattle.std.specs.Prelude.{All}
use Rattle.std.specs.Option.{option_and_then, option_map}
use Rattle.std.proofs.lemmas.Bool.{and_right, le-leb, lt-leb, ltb-false, ltb-true, or_right}
use Rattle.byte_text.specs.Bytes.{is_printable}
use Rattle.byte_text.specs.Quoted.{hex_digit, spelled, spelled_all, spelling}
use Rattle.byte_text.proofs.ListLaws.{all_head, all_tail}
use Rattle.author_text.specs.declared.escape.Spelled.{Spelled}
use Rattle.author_text.specs.declared.escape.Spelled.TheVariants as spells
use Rattle.author_text.specs.Escapes.{may_stand, hex_value, hex_byte, spelled_in, escape_front, front_spelled}
use Rattle.author_text.specs.TextTokens.{len_to_end, piece, spelled_len, text_front, tokens_behind}
use Rattle.author_text.specs.Tokens.{TokenTree, quoted_token}
use Rattle.author_text.specs.Writable.{AllBytes}
use Rattle.author_text.proofs.PieceLaws.{HasTokens, ReadsAny, next_piece, take_front}

-- so many bytes more
abbrev more : ℕ → Option ℕ → Option ℕ
more n o = option_map (λ k. n + k) o

pub hex_again : (d : ℕ) → d < 16 → hex_value (hex_digit d) ≡ Some d
hex_again d low = by_case (ltb d 10) refl
  where
    by_case : (v : Bool) → ltb d 10 ≡ v → hex_value (hex_digit d) ≡ Some d
    by_case true e =
        let k = ltb-true d 10 e in
        let v : 48 + d - 48 ≡ d = omega arith in
        ap (λ x. hex_value (cond x (48 + d) (87 + d))) e
        ∙ ap (λ x. cond (x && leb (48 + d) 57) (Some (48 + d - 48)) (cond (leb 97 (48 + d) && leb (48 + d) 102) (Some (48 + d - 97 + 10)) (cond (leb 65 (48 + d) && leb (48 + d) 70)
        (Some (48 + d - 65 + 10)) None))) (le-leb 48 (48 + d) (omega arith))
        ∙ ap (λ x. cond x (Some (48 + d - 48)) (cond (leb 97 (48 + d) && leb (48 + d) 102) (Some (48 + d - 97 + 10)) (cond (leb 65 (48 + d) && leb (48 + d) 70)
        (Some (48 + d - 65 + 10)) None))) (le-leb (48 + d) 57 (omega arith))
        ∙ ap Some v
    by_case false e =
        let k = ltb-false d 10 e in
        let v : 87 + d - 97 + 10 ≡ d = omega arith in
        let low_part : (leb 48 (87 + d) && leb (87 + d) 57) ≡ false = ap (λ x. leb 48 (87 + d) && x) (lt-leb (87 + d) 57 (omega arith)) ∙ and_right (leb 48 (87 + d)) false refl in
        ap (λ x. hex_value (cond x (48 + d) (87 + d))) e
        ∙ ap (λ x. cond x (Some (87 + d - 48)) (cond (leb 97 (87 + d) && leb (87 + d) 102) (Some (87 + d - 97 + 10)) (cond (leb 65 (87 + d) && leb (87 + d) 70)
        (Some (87 + d - 65 + 10)) None))) low_part
        ∙ ap (λ x. cond (x && leb (87 + d) 102) (Some (87 + d - 97 + 10)) (cond (leb 65 (87 + d) && leb (87 + d) 70) (Some (87 + d - 65 + 10)) None)) (le-leb 97 (87 + d) (omega arith))
        ∙ ap (λ x. cond x (Some (87 + d - 97 + 10)) (cond (leb 65 (87 + d) && leb (87 + d) 70) (Some (87 + d - 65 + 10)) None)) (le-leb (87 + d) 102 (omega arith))
        ∙ ap Some v

ones : (o : Option ℕ) → option_map suc o ≡ more 1 o
ones None = refl
ones (Some k) = let e : suc k ≡ 1 + k = omega arith in ap Some e

twos : (o : Option ℕ) → option_map suc (option_map suc o) ≡ more 2 o
twos None = refl
twos (Some k) = let e : suc (suc k) ≡ 2 + k = omega arith in ap Some e

fours : (o : Option ℕ) → option_map suc (option_map suc (option_map suc (option_map suc o))) ≡ more 4 o
fours None = refl
fours (Some k) = let e : suc (suc (suc (suc k))) ≡ 4 + k = omega arith in ap Some e

-- one byte as it is printed is passed
byte_end : (b : ℕ) (rest : List ℕ) → b < 256 → len_to_end 0 (spelled b ++ rest) ≡ more (length (spelled b)) (len_to_end 0 rest)
byte_end b rest low = by_case (eqb b 34) (eqb b 92) (is_printable b) refl refl refl
  where
    hex_end : (h l m n : ℕ) → hex_value h ≡ Some m → hex_value l ≡ Some n → len_to_end 0 (92 ∷ 120 ∷ h ∷ l ∷ rest) ≡ more 4 (len_to_end 0 rest)
    hex_end h l m n p q =
        ap (λ o. option_and_then (λ k. option_map suc (len_to_end (k - 1) (120 ∷ h ∷ l ∷ rest))) (spelled_len (spelled_in 120 4 (option_and_then (λ x. option_map
        (λ y. 16 * x + y) (hex_value l)) o)))) p
        ∙ ap (λ o. option_and_then (λ k. option_map suc (len_to_end (k - 1) (120 ∷ h ∷ l ∷ rest))) (spelled_len (spelled_in 120 4 (option_map (λ y. 16 * m + y) o)))) q
        ∙ fours (len_to_end 0 rest)

    plain_end : eqb b 34 ≡ false → eqb b 92 ≡ false → is_printable b ≡ true → len_to_end 0 (b ∷ rest) ≡ more 1 (len_to_end 0 rest)
    plain_end p q r =
        ap (λ v. cond v (Some 0) (option_and_then (λ k. option_map suc (len_to_end (k - 1) rest)) (spelled_len (front_spelled (b ∷ rest))))) p
        ∙ ap (λ v. option_and_then (λ k. option_map suc (len_to_end (k - 1) rest)) (spelled_len (cond v (escape_front rest) (spells.Byte b 1)))) q
        ∙ ap (λ v. option_and_then (λ k. option_map suc (len_to_end (k - 1) rest)) (cond (not (eqb b 9 || v)) None (Some 1))) r
        ∙ ap (λ v. option_and_then (λ k. option_map suc (len_to_end (k - 1) rest)) (cond (not v) None (Some 1))) (or_right (eqb b 9) true refl)
        ∙ ones (len_to_end 0 rest)

    by_case : (x y z : Bool) → eqb b 34 ≡ x → eqb b 92 ≡ y → is_printable b ≡ z → len_to_end 0 (spelled b ++ rest) ≡ more (length (spelled b)) (len_to_end 0 rest)
    by_case true y z p q r =
        subst (λ xs. len_to_end 0 (xs ++ rest) ≡ more (length xs) (len_to_end 0 rest)) (sym (ap (λ v. cond v (92 ∷ 34 ∷ []) (cond (eqb b 92) (92 ∷ 92 ∷ [])
        (cond (is_printable b) (b ∷ []) (92 ∷ 120 ∷ hex_digit (b / 16) ∷ hex_digit (b % 16) ∷ [])))) p))
        (twos (len_to_end 0 rest))
    by_case false true z p q r =
        subst (λ xs. len_to_end 0 (xs ++ rest) ≡ more (length xs) (len_to_end 0 rest))
        (sym (ap (λ v. cond v (92 ∷ 34 ∷ []) (cond (eqb b 92) (92 ∷ 92 ∷ []) (cond (is_printable b) (b ∷ []) (92 ∷ 120 ∷ hex_digit (b / 16) ∷ hex_digit (b % 16) ∷ [])))) p
        ∙ ap (λ v. cond v (92 ∷ 92 ∷ []) (cond (is_printable b) (b ∷ []) (92 ∷ 120 ∷ hex_digit (b / 16) ∷ hex_digit (b % 16) ∷ []))) q))
        (twos (len_to_end 0 rest))
    by_case false false true p q r =
        subst (λ xs. len_to_end 0 (xs ++ rest) ≡ more (length xs) (len_to_end 0 rest))
        (sym (ap (λ v. cond v (92 ∷ 34 ∷ []) (cond (eqb b 92) (92 ∷ 92 ∷ []) (cond (is_printable b) (b ∷ []) (92 ∷ 120 ∷ hex_digit (b / 16) ∷ hex_digit (b % 16) ∷ [])))) p
        ∙ ap (λ v. cond v (92 ∷ 92 ∷ []) (cond (is_printable b) (b ∷ []) (92 ∷ 120 ∷ hex_digit (b / 16) ∷ hex_digit (b % 16) ∷ []))) q
        ∙ ap (λ v. cond v (b ∷ []) (92 ∷ 120 ∷ hex_digit (b / 16) ∷ hex_digit (b % 16) ∷ [])) r))
        (plain_end p q r)
    by_case false false false p q r =
        subst (λ xs. len_to_end 0 (xs ++ rest) ≡ more (length xs) (len_to_end 0 rest))
        (sym (ap (λ v. cond v (92 ∷ 34 ∷ []) (cond (eqb b 92) (92 ∷ 92 ∷ []) (cond (is_printable b) (b ∷ []) (92 ∷ 120 ∷ hex_digit (b / 16) ∷ hex_digit (b % 16) ∷ [])))) p
        ∙ ap (λ v. cond v (92 ∷ 92 ∷ []) (cond (is_printable b) (b ∷ []) (92 ∷ 120 ∷ hex_digit (b / 16) ∷ hex_digit (b % 16) ∷ []))) q
        ∙ ap (λ v. cond v (b ∷ []) (92 ∷ 120 ∷ hex_digit (b / 16) ∷ hex_digit (b % 16) ∷ [])) r))
        (hex_end (hex_digit (b / 16)) (hex_digit (b % 16)) (b / 16) (b % 16) (hex_again (b / 16) (omega arith)) (hex_again (b % 16) (omega arith)))

more_more : (m n : ℕ) (o : Option ℕ) → more m (more n o) ≡ more (m + n) o
more_more m n None = refl
more_more m n (Some k) = let e : m + (n + k) ≡ m + n + k = omega arith in ap Some e

-- all bytes up to the quote
bytes_end : (bytes rest : List ℕ) → AllBytes bytes → len_to_end 0 (spelled_all bytes ++ rest) ≡ more (length (spelled_all bytes)) (len_to_end 0 rest)
bytes_end [] rest h = same (len_to_end 0 rest)
  where
    same : (o : Option ℕ) → o ≡ more 0 o
    same None = refl
    same (Some k) = let e : k ≡ 0 + k = omega arith in ap Some e
bytes_end (b ∷ bs) rest h =
    ap (len_to_end 0) (append_assoc (spelled b) (spelled_all bs) rest) ∙ byte_end b (spelled_all bs ++ rest) (all_head (λ x. x < 256) b bs h)
    ∙ ap (more (length (spelled b))) (bytes_end bs rest (all_tail (λ x. x < 256) b bs h))
    ∙ more_more (length (spelled b)) (length (spelled_all bs)) (len_to_end 0 rest)
    ∙ ap (λ n. more n (len_to_end 0 rest)) (sym (length-append (spelled b) (spelled_all bs)))

behind_quote : (xs rest : List ℕ) → drop (suc (length xs)) (xs ++ (34 ∷ rest)) ≡ rest
behind_quote [] rest = refl
behind_quote (x ∷ xs) rest = behind_quote xs rest

pub quoted_reads : (bytes : List ℕ) → AllBytes bytes → ReadsAny (spelling bytes) (quoted_token (spelled_all bytes) ∷ [])
quoted_reads bytes h = record { reads = λ rest ts t. whole rest ts t }
  where
    whole : (rest : List ℕ) (ts : List TokenTree) → HasTokens rest ts → HasTokens (spelling bytes ++ rest) (quoted_token (spelled_all bytes) ∷ ts)
    whole rest ts t =
        let text = spelled_all bytes ++ (34 ∷ rest) in
        let n = length (spelled_all bytes) in
        let zero_more : n + 0 ≡ n = omega arith in
        let end : len_to_end 0 text ≡ Some n = bytes_end bytes (34 ∷ rest) h ∙ ap Some zero_more in
        let front : text_front (34 ∷ text) ≡ Some (record { tokens = quoted_token (spelled_all bytes) ∷ []; len = n + 2 }) =
        ap (option_and_then (λ k. piece (quoted_token (take k text) ∷ []) (k + 2))) end ∙ ap
        (λ xs. Some (record { tokens = quoted_token xs ∷ []; len = n + 2 })) (take_front (spelled_all bytes) (34 ∷ rest)) in
        let one : n + 2 - 1 ≡ suc n = omega arith in
        let left : drop (n + 2 - 1) text ≡ rest = ap (λ k. drop k text) one ∙ behind_quote (spelled_all bytes) rest in
        ap (λ xs. tokens_behind 0 (34 ∷ xs)) (append_assoc (spelled_all bytes) (34 ∷ []) rest)
        ∙ next_piece 34 text rest (record { tokens = quoted_token (spelled_all bytes) ∷ []; len = n + 2 }) ts front left t
