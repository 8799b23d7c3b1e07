-- A text that was read is spelled by the grammar.
use Rattle.std.proofs.Common.{◌≡◌, ℕ, ◌+◌, ◌-◌, ◌*◌, ◌<◌, Bool, true, false, ◌&&◌, cond, eqb, ltb, leb, List, [], ◌∷◌, ◌++◌, length, map, Option, Some, None, Result, Ok, Err, refl, sym, ◌∙◌, ap}
use Rattle.std.proofs.Common.{subst, arith, append_assoc, append-nil, length-append}
use Rattle.std.specs.Prelude.{All, IfOk, IfSome}
use Rattle.std.proofs.lemmas.Bool.{and_parts, eqb-true, leb-true, le-ltb, lt-ltb}
use Rattle.byte_text.specs.Bytes.{is_printable}
use Rattle.byte_text.specs.Quoted.{Quoted, IsBelow16, hex_digit, hex_value, high_digit, low_digit, made, moved, quoted, text_from, text_of, text_step}
use Rattle.byte_text.specs.QuotedTexts.{BytePiece, Spells, StandsIn, plain, quote, backslash, line_feed, carriage_return, hex, is_piece, piece_byte, piece_text, pieces_text}
use Rattle.byte_text.specs.declared.quoted.ByteRead.{ByteRead}
use Rattle.byte_text.specs.declared.quoted.Scan.{Scan}
use Rattle.byte_text.specs.declared.quoted.Scan.TheVariants as scan
use Rattle.byte_text.proofs.ListLaws.{all_cons}
use Rattle.byte_text.proofs.QuoteAgain.{quoted_again}

digit_found : (u d : ℕ) → hex_value u ≡ Some d → (d < 16) × (u ≡ hex_digit d)
digit_found u d h = decimal (leb 48 u && leb u 57) refl h
  where
    letter : (b : Bool) → (leb 97 u && leb u 102) ≡ b → cond b (Some (u - 97 + 10)) None ≡ Some d → (d < 16) × (u ≡ hex_digit d)
    letter false q h = absurd (cc h)
    letter true q h =
        let a = and_parts (leb 97 u) (leb u 102) q in
        let low = leb-true 97 u a.0 in
        let high = leb-true u 102 a.1 in
        let e : u - 97 + 10 ≡ d = cc h in
        let ten : ltb d 10 ≡ false = le-ltb d 10 (omega (arith, e)) in
        (omega (arith, e), rw ten (omega (arith, e)))

    decimal : (b : Bool) → (leb 48 u && leb u 57) ≡ b → cond b (Some (u - 48)) (cond (leb 97 u && leb u 102) (Some (u - 97 + 10)) None) ≡ Some d → (d < 16) × (u ≡ hex_digit d)
    decimal false q h = letter (leb 97 u && leb u 102) refl h
    decimal true q h =
        let a = and_parts (leb 48 u) (leb u 57) q in
        let low = leb-true 48 u a.0 in
        let high = leb-true u 57 a.1 in
        let e : u - 48 ≡ d = cc h in
        let ten : ltb d 10 ≡ true = lt-ltb d 10 (omega (arith, e)) in
        (omega (arith, e), rw ten (omega (arith, e)))

-- what was read of the piece that the reader is in
abbrev begun : Scan → List ℕ
begun scan.Plain = []
begun scan.Escape = 92 ∷ []
begun scan.High = 92 ∷ 120 ∷ []
begun (scan.Low h) = 92 ∷ 120 ∷ hex_digit h ∷ []
begun scan.Done = []

record ScansTo (s : Scan) (acc : List ℕ) (n : ℕ) (bs : List ℕ) (q : Quoted) : Type 0 where
  pieces : List BytePiece
  rest : List ℕ
  right : All (λ c. is_piece c ≡ true) pieces
  whole : begun s ++ bs ≡ pieces_text pieces ++ 34 ∷ rest
  text : q.text ≡ acc ++ map piece_byte pieces
  used : q.used + length (begun s) ≡ n + length (pieces_text pieces) + 1

-- a piece in front of those that were taken
more_pieces : (c : BytePiece) (s : Scan) (acc : List ℕ) (n : ℕ) (b : ℕ) (bs : List ℕ) (q : Quoted) → is_piece c ≡ true → begun s ++ b ∷ [] ≡ piece_text c
    → ScansTo scan.Plain (acc ++ piece_byte c ∷ []) (n + 1) bs q → ScansTo s acc n (b ∷ bs) q
more_pieces c s acc n b bs q p e t =
    let size = ap length e in
    let one = length-append (begun s) (b ∷ []) in
    let both = length-append (piece_text c) (pieces_text t.pieces) in
    record {
      pieces = c ∷ t.pieces;
      rest = t.rest;
      right = all_cons (λ x. is_piece x ≡ true) c t.pieces p t.right;
      whole = sym (append_assoc (begun s) (b ∷ []) bs) ∙ ap (λ x. x ++ bs) e ∙ ap (λ x. piece_text c ++ x) t.whole ∙ sym (append_assoc (piece_text c) (pieces_text t.pieces) (34 ∷ t.rest));
      text = t.text ∙ append_assoc acc (piece_byte c ∷ []) (map piece_byte t.pieces);
      used = omega (arith, t.used, size, one, both);
    }

-- the reader goes on within a piece
within : (s u : Scan) (acc : List ℕ) (n : ℕ) (b : ℕ) (bs : List ℕ) (q : Quoted) → begun s ++ b ∷ [] ≡ begun u → ScansTo u (acc ++ []) (n + 1) bs q → ScansTo s acc n (b ∷ bs) q
within s u acc n b bs q e t =
    let size = ap length e in
    let one = length-append (begun s) (b ∷ []) in
    record {
      pieces = t.pieces;
      rest = t.rest;
      right = t.right;
      whole = sym (append_assoc (begun s) (b ∷ []) bs) ∙ ap (λ x. x ++ bs) e ∙ t.whole;
      text = t.text ∙ ap (λ x. x ++ map piece_byte t.pieces) (append-nil acc);
      used = omega (arith, t.used, size, one);
    }

abbrev steps : Option ByteRead → List ℕ → ℕ → List ℕ → Option Quoted
steps r acc n bs = text_step r acc n (λ t more. text_from t more (n + 1) bs)

taken_from : (bs : List ℕ) (s : Scan) (acc : List ℕ) (n : ℕ) (q : Quoted) → IsBelow16 s → text_from s acc n bs ≡ Some q → ScansTo s acc n bs q
taken_from [] s acc n q w h = absurd (cc h)
taken_from (b ∷ bs) s acc n q w h = state s w h (λ t a. taken_from bs t a (n + 1) q)
  where
    plainly : (x y z : Bool) → eqb b 34 ≡ x → eqb b 92 ≡ y → is_printable b ≡ z → steps (cond x (moved scan.Done) (cond y (moved scan.Escape) (cond z (made b) None))) acc n bs ≡ Some q
        → ((t : Scan) (a : List ℕ) → IsBelow16 t → text_from t a (n + 1) bs ≡ Some q → ScansTo t a (n + 1) bs q) → ScansTo scan.Plain acc n (b ∷ bs) q
    plainly true y z e f g h more =
        let same : record { text = acc; used = n + 1 } ≡ q = cc h in
        record {
          pieces = [];
          rest = bs;
          right = λ k d lt. absurd (omega arith);
          whole = ap (λ x. x ∷ bs) (eqb-true b 34 e);
          text = ap (λ (x : Quoted). x.text) (sym same) ∙ sym (append-nil acc);
          used = let u = ap (λ (x : Quoted). x.used) same in omega (arith, u);
        }
    plainly false true z e f g h more = within scan.Plain scan.Escape acc n b bs q (ap (λ x. x ∷ []) (eqb-true b 92 f)) (more scan.Escape (acc ++ []) tt h)
    plainly false false true e f g h more = more_pieces (plain b) scan.Plain acc n b bs q (rw (g, e, f) refl) refl (more scan.Plain (acc ++ b ∷ []) tt h)
    plainly false false false e f g h more = absurd (cc h)

    escape : (x y z u v : Bool) → eqb b 34 ≡ x → eqb b 92 ≡ y → eqb b 110 ≡ z → eqb b 114 ≡ u → eqb b 120 ≡ v → steps (cond x (made 34) (cond y (made 92) (cond z (made 10) (cond u (made 13) (cond v
        (moved scan.High) None))))) acc n bs ≡ Some q → ((t : Scan) (a : List ℕ) → IsBelow16 t → text_from t a (n + 1) bs ≡ Some q → ScansTo t a (n + 1) bs q) → ScansTo scan.Escape acc n (b ∷ bs) q
    escape true y z u v e f g i j h more = more_pieces quote scan.Escape acc n b bs q refl (ap (λ x. 92 ∷ x ∷ []) (eqb-true b 34 e)) (more scan.Plain (acc ++ 34 ∷ []) tt h)
    escape false true z u v e f g i j h more = more_pieces backslash scan.Escape acc n b bs q refl (ap (λ x. 92 ∷ x ∷ []) (eqb-true b 92 f)) (more scan.Plain (acc ++ 92 ∷ []) tt h)
    escape false false true u v e f g i j h more = more_pieces line_feed scan.Escape acc n b bs q refl (ap (λ x. 92 ∷ x ∷ []) (eqb-true b 110 g)) (more scan.Plain (acc ++ 10 ∷ []) tt h)
    escape false false false true v e f g i j h more = more_pieces carriage_return scan.Escape acc n b bs q refl (ap (λ x. 92 ∷ x ∷ []) (eqb-true b 114 i)) (more scan.Plain (acc ++ 13 ∷ []) tt h)
    escape false false false false true e f g i j h more = within scan.Escape scan.High acc n b bs q (ap (λ x. 92 ∷ x ∷ []) (eqb-true b 120 j)) (more scan.High (acc ++ []) tt h)
    escape false false false false false e f g i j h more = absurd (cc h)

    high : (o : Option ℕ) → hex_value b ≡ o → steps (high_digit o) acc n bs ≡ Some q → ((t : Scan) (a : List ℕ) → IsBelow16 t → text_from t a (n + 1) bs ≡ Some q → ScansTo t a (n + 1) bs q)
        → ScansTo scan.High acc n (b ∷ bs) q
    high None e h more = absurd (cc h)
    high (Some d) e h more =
        let z = digit_found b d e in
        within scan.High (scan.Low d) acc n b bs q (ap (λ x. 92 ∷ 120 ∷ x ∷ []) z.1) (more (scan.Low d) (acc ++ []) z.0 h)

    low : (u : ℕ) (o : Option ℕ) → u < 16 → hex_value b ≡ o → steps (low_digit u o) acc n bs ≡ Some q
        → ((t : Scan) (a : List ℕ) → IsBelow16 t → text_from t a (n + 1) bs ≡ Some q → ScansTo t a (n + 1) bs q) → ScansTo (scan.Low u) acc n (b ∷ bs) q
    low u None w e h more = absurd (cc h)
    low u (Some d) w e h more =
        let z = digit_found b d e in
        more_pieces (hex u d) (scan.Low u) acc n b bs q (rw (lt-ltb u 16 w, lt-ltb d 16 z.0) refl) (ap (λ x. 92 ∷ 120 ∷ hex_digit u ∷ x ∷ []) z.1) (more scan.Plain (acc ++ (16 * u + d) ∷ []) tt h)

    state : (s : Scan) → IsBelow16 s → text_from s acc n (b ∷ bs) ≡ Some q → ((t : Scan) (a : List ℕ) → IsBelow16 t → text_from t a (n + 1) bs ≡ Some q → ScansTo t a (n + 1) bs q)
        → ScansTo s acc n (b ∷ bs) q
    state scan.Plain w h more = plainly (eqb b 34) (eqb b 92) (is_printable b) refl refl refl h more
    state scan.Escape w h more = escape (eqb b 34) (eqb b 92) (eqb b 110) (eqb b 114) (eqb b 120) refl refl refl refl refl h more
    state scan.High w h more = high (hex_value b) refl h more
    state (scan.Low u) w h more = low u (hex_value b) w refl h more
    state scan.Done w h more = absurd (cc h)

-- what was read stands in front of the bytes, as it is spelled
pub quoted_found : (bs : List ℕ) (q : Quoted) → quoted bs ≡ Some q → (t : StandsIn q.text bs) × (q.used ≡ length t.spelled)
unfolding quoted
quoted_found [] q h = absurd (cc h)
quoted_found (b ∷ bs) q h = mark (eqb b 34) refl h
  where
    mark : (x : Bool) → eqb b 34 ≡ x → cond x (text_from scan.Plain [] 1 bs) None ≡ Some q → (t : StandsIn q.text (b ∷ bs)) × (q.used ≡ length t.spelled)
    mark false e h = absurd (cc h)
    mark true e h =
        let t = taken_from bs scan.Plain [] 1 q tt h in
        let p = pieces_text t.pieces in
        let size = length-append p (34 ∷ []) in (
          record {
            spelled = 34 ∷ (p ++ 34 ∷ []);
            rest = t.rest;
            right = record { pieces = t.pieces; right = t.right; whole = refl; same = t.text };
            whole = ap (λ x. x ∷ bs) (eqb-true b 34 e) ∙ ap (λ x. 34 ∷ x) (t.whole ∙ sym (append_assoc p (34 ∷ []) t.rest));
          },
          omega (arith, t.used, size),
        )

pub only_spelled : {E : Type 0} (bs s text rest : List ℕ) (r : Result (Option (List ℕ)) E) → IfOk r (λ t. t ≡ text_of (quoted bs)) → Spells s text → bs ≡ s ++ rest → IfOk r (λ t. t ≡ Some text)
only_spelled bs s text rest (Ok t) v h e = v ∙ ap (λ x. text_of (quoted x)) e ∙ ap text_of (quoted_again s text rest h)
only_spelled bs s text rest (Err x) v h e = tt

pub spelled_found : {E : Type 0} (bs : List ℕ) (r : Result (Option (List ℕ)) E) → IfOk r (λ t. t ≡ text_of (quoted bs)) → IfOk r (λ t. IfSome t (λ text. StandsIn text bs))
spelled_found bs (Err x) v = tt
spelled_found bs (Ok t) v = subst (λ x. IfSome x (λ text. StandsIn text bs)) (sym v) (stands (quoted bs) refl)
  where
    stands : (q : Option Quoted) → quoted bs ≡ q → IfSome (text_of q) (λ text. StandsIn text bs)
    stands None e = tt
    stands (Some q) e = (quoted_found bs q e).0
