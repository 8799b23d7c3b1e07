-- A text that is spelled by the grammar is read as its bytes.
use Rattle.std.proofs.Common.{◌≡◌, ℕ, ◌+◌, ◌-◌, ◌*◌, ◌<◌, Bool, true, false, ◌&&◌, not, cond, eqb, ltb, leb, List, [], ◌∷◌, ◌++◌, length, map, Option, Some, refl, sym, ◌∙◌, ap, subst, arith}
use Rattle.std.proofs.Common.{append_assoc, append-nil, length-append}
use Rattle.std.specs.Prelude.{All}
use Rattle.std.proofs.lemmas.Bool.{and_parts, ltb-true, ltb-false, le-leb, lt-leb, not-true, leb-true}
use Rattle.byte_text.specs.Bytes.{is_printable}
use Rattle.byte_text.specs.Quoted.{Quoted, hex_digit, hex_value, quoted, text_from}
use Rattle.byte_text.specs.QuotedTexts.{BytePiece, plain, quote, backslash, line_feed, carriage_return, hex, Spells, is_piece, piece_byte, pieces_text}
use Rattle.byte_text.specs.declared.quoted.Scan.TheVariants as scan
use Rattle.byte_text.proofs.ListLaws.{all_cons, all_head, all_tail}

-- a digit is read as its value
digit_again : (d : ℕ) → d < 16 → hex_value (hex_digit d) ≡ Some d
digit_again d h = small (ltb d 10) refl
  where
    small : (b : Bool) → ltb d 10 ≡ b → hex_value (cond b (48 + d) (87 + d)) ≡ Some d
    small true q =
        let low = ltb-true d 10 q in
        let a : leb 48 (48 + d) ≡ true = le-leb 48 (48 + d) (omega arith) in
        let b : leb (48 + d) 57 ≡ true = le-leb (48 + d) 57 (omega arith) in
        let e : 48 + d - 48 ≡ d = omega arith in
        rw (a, b, e) refl
    small false q =
        let high = ltb-false d 10 q in
        let a : leb 48 (87 + d) ≡ true = le-leb 48 (87 + d) (omega arith) in
        let b : leb (87 + d) 57 ≡ false = lt-leb (87 + d) 57 (omega arith) in
        let x : leb 97 (87 + d) ≡ true = le-leb 97 (87 + d) (omega arith) in
        let y : leb (87 + d) 102 ≡ true = le-leb (87 + d) 102 (omega arith) in
        let e : 87 + d - 97 + 10 ≡ d = omega arith in
        rw (a, b, x, y, e) refl

abbrev read_as : List ℕ → ℕ → Option Quoted
read_as text used = Some (record { text = text; used = used })

reads : (a b : List ℕ) (m n : ℕ) → a ≡ b → m ≡ n → read_as a m ≡ read_as b n
reads a b m n p q = ap (λ x. read_as x m) p ∙ ap (read_as b) q

one_more : (acc : List ℕ) (b : ℕ) (bs : List ℕ) → (acc ++ b ∷ []) ++ bs ≡ acc ++ b ∷ bs
one_more acc b bs = append_assoc acc (b ∷ []) bs

-- the pieces of a text are read one by one, up to the closing quote
pub pieces_again : (cs : List BytePiece) (acc : List ℕ) (n : ℕ) (rest : List ℕ) → All (λ c. is_piece c ≡ true) cs
    → text_from scan.Plain acc n (pieces_text cs ++ 34 ∷ rest) ≡ read_as (acc ++ map piece_byte cs) (n + length (pieces_text cs) + 1)
pieces_again [] acc n rest h = reads acc (acc ++ []) (n + 1) (n + 0 + 1) (sym (append-nil acc)) (omega arith)
pieces_again (plain b ∷ cs) acc n rest h =
    let a = and_parts (is_printable b && not (eqb b 34)) (not (eqb b 92)) (all_head (λ c. is_piece c ≡ true) (plain b) cs h) in
    let c = and_parts (is_printable b) (not (eqb b 34)) a.0 in
    let x : eqb b 34 ≡ false = not-true (eqb b 34) c.1 in
    let y : eqb b 92 ≡ false = not-true (eqb b 92) a.1 in
    rw (x, y, c.0) (pieces_again cs (acc ++ b ∷ []) (n + 1) rest (all_tail (λ c. is_piece c ≡ true) (plain b) cs h) ∙ reads _ _ _ _ (one_more acc b (map piece_byte cs)) (omega arith))
pieces_again (quote ∷ cs) acc n rest h =
    rw (append-nil acc) (pieces_again cs (acc ++ 34 ∷ []) (n + 1 + 1) rest (all_tail (λ c. is_piece c ≡ true) quote cs h) ∙ reads _ _ _ _ (one_more acc 34 (map piece_byte cs)) (omega arith))
pieces_again (backslash ∷ cs) acc n rest h =
    rw (append-nil acc) (pieces_again cs (acc ++ 92 ∷ []) (n + 1 + 1) rest (all_tail (λ c. is_piece c ≡ true) backslash cs h) ∙ reads _ _ _ _ (one_more acc 92 (map piece_byte cs)) (omega arith))
pieces_again (line_feed ∷ cs) acc n rest h =
    rw (append-nil acc) (pieces_again cs (acc ++ 10 ∷ []) (n + 1 + 1) rest (all_tail (λ c. is_piece c ≡ true) line_feed cs h) ∙ reads _ _ _ _ (one_more acc 10 (map piece_byte cs)) (omega arith))
pieces_again (carriage_return ∷ cs) acc n rest h =
    rw (append-nil acc) (pieces_again cs (acc ++ 13 ∷ []) (n + 1 + 1) rest (all_tail (λ c. is_piece c ≡ true) carriage_return cs h) ∙ reads _ _ _ _ (one_more acc 13 (map piece_byte cs)) (omega arith))
pieces_again (hex u v ∷ cs) acc n rest h =
    let a = and_parts (ltb u 16) (ltb v 16) (all_head (λ c. is_piece c ≡ true) (hex u v) cs h) in
    let x = digit_again u (ltb-true u 16 a.0) in
    let y = digit_again v (ltb-true v 16 a.1) in
    rw (append-nil acc, append-nil acc, x, append-nil acc, y) (pieces_again cs (acc ++ (16 * u + v) ∷ []) (n + 1 + 1 + 1 + 1) rest (all_tail (λ c. is_piece c ≡ true) (hex u v) cs h)
    ∙ reads _ _ _ _ (one_more acc (16 * u + v) (map piece_byte cs)) (omega arith))

pub quoted_again : (s bytes rest : List ℕ) → Spells s bytes → quoted (s ++ rest) ≡ Some (record { text = bytes; used = length s })
unfolding quoted
quoted_again s bytes rest h =
    let t = pieces_text h.pieces in
    let join : (t ++ 34 ∷ []) ++ rest ≡ t ++ 34 ∷ rest = append_assoc t (34 ∷ []) rest in
    let size = length-append t (34 ∷ []) in
    rw (h.whole, h.same, join) (pieces_again h.pieces [] 1 rest h.right ∙ reads _ _ _ _ refl (omega (arith, size)))

-- the bytes of a text are bytes
pieces_bytes : (cs : List BytePiece) → All (λ c. is_piece c ≡ true) cs → All (λ b. b < 256) (map piece_byte cs)
pieces_bytes [] h = λ k d lt. absurd (omega arith)
pieces_bytes (c ∷ cs) h = all_cons (λ b. b < 256) (piece_byte c) (map piece_byte cs) (byte c (all_head (λ c. is_piece c ≡ true) c cs h)) (pieces_bytes cs (all_tail (λ c. is_piece c ≡ true) c cs h))
  where
    byte : (c : BytePiece) → is_piece c ≡ true → piece_byte c < 256
    byte (plain b) e =
        let x = and_parts (is_printable b && not (eqb b 34)) (not (eqb b 92)) e in
        let y = and_parts (is_printable b) (not (eqb b 34)) x.0 in
        let z = and_parts (leb 32 b) (leb b 126) y.0 in
        let high = leb-true b 126 z.1 in
        omega arith
    byte quote e = omega arith
    byte backslash e = omega arith
    byte line_feed e = omega arith
    byte carriage_return e = omega arith
    byte (hex u v) e =
        let x = and_parts (ltb u 16) (ltb v 16) e in
        let p = ltb-true u 16 x.0 in
        let q = ltb-true v 16 x.1 in
        omega arith

pub spelled_bytes : (s text : List ℕ) → Spells s text → All (λ b. b < 256) text
spelled_bytes s text h = subst (λ t. All (λ b. b < 256) t) (sym h.same) (pieces_bytes h.pieces h.right)
