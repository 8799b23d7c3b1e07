-- A text as it is printed is one of its spellings, printable and short.
use Rattle.std.proofs.Common.{◌≡◌, ℕ, ◌+◌, ◌*◌, ◌/◌, ◌%◌, ◌<◌, ◌≤◌, Bool, true, false, cond, eqb, ltb, List, [], ◌∷◌, ◌++◌, length, map, refl, sym, ◌∙◌, ap, arith, length-append}
use Rattle.std.specs.Prelude.{All}
use Rattle.std.specs.List.{list_all}
use Rattle.std.proofs.lemmas.Bool.{eqb-true, le-leb, lt-ltb}
use Rattle.std.proofs.lemmas.List.Folds.{list_all-append}
use Rattle.byte_text.specs.Bytes.{is_printable}
use Rattle.byte_text.specs.Quoted.{hex_digit, spelled, spelled_all, spelling}
use Rattle.byte_text.specs.QuotedTexts.{BytePiece, Spells, plain, quote, backslash, hex, is_piece, piece_byte, piece_text, pieces_text}
use Rattle.byte_text.proofs.ListLaws.{all_cons, all_head, all_tail}

-- how a byte is printed: as one piece, of printable bytes, four at most
record IsSpelled (b : ℕ) : Type 0 where
  piece : BytePiece
  right : is_piece piece ≡ true
  same : piece_byte piece ≡ b
  text : piece_text piece ≡ spelled b
  clean : list_all is_printable (spelled b) ≡ true
  short : length (spelled b) ≤ 4

hex_printable : (d : ℕ) → d < 16 → is_printable (hex_digit d) ≡ true
hex_printable d h = small (ltb d 10) refl
  where
    small : (x : Bool) → ltb d 10 ≡ x → is_printable (cond x (48 + d) (87 + d)) ≡ true
    small true q = rw (le-leb 32 (48 + d) (omega arith), le-leb (48 + d) 126 (omega arith)) refl
    small false q = rw (le-leb 32 (87 + d) (omega arith), le-leb (87 + d) 126 (omega arith)) refl

printed_byte : (b : ℕ) → b < 256 → IsSpelled b
printed_byte b low = by_case (eqb b 34) (eqb b 92) (is_printable b) refl refl refl
  where
    by_case : (x y z : Bool) → eqb b 34 ≡ x → eqb b 92 ≡ y → is_printable b ≡ z → IsSpelled b
    by_case true y z e f g = let s = eqb-true b 34 e in record { piece = quote; right = refl; same = sym s; text = rw s refl; clean = rw s refl; short = rw s (omega arith) }
    by_case false true z e f g = let s = eqb-true b 92 f in record { piece = backslash; right = refl; same = sym s; text = rw s refl; clean = rw s refl; short = rw s (omega arith) }
    by_case false false true e f g = record { piece = plain b; right = rw (g, e, f) refl; same = refl; text = rw (e, f, g) refl; clean = rw (e, f, g) (rw g refl); short = rw (e, f, g) (omega arith) }
    by_case false false false e f g =
        let high : b / 16 < 16 = omega arith in
        let last : b % 16 < 16 = omega arith in
        let sum : 16 * (b / 16) + b % 16 ≡ b = omega arith in
        record {
          piece = hex (b / 16) (b % 16);
          right = rw (lt-ltb (b / 16) 16 high, lt-ltb (b % 16) 16 last) refl;
          same = sum;
          text = rw (e, f, g) refl;
          clean = rw (e, f, g) (rw (hex_printable (b / 16) high, hex_printable (b % 16) last) refl);
          short = rw (e, f, g) (omega arith);
        }

record ArePrinted (text : List ℕ) : Type 0 where
  pieces : List BytePiece
  right : All (λ c. is_piece c ≡ true) pieces
  same : text ≡ map piece_byte pieces
  whole : spelled_all text ≡ pieces_text pieces
  clean : list_all is_printable (spelled_all text) ≡ true
  short : length (spelled_all text) ≤ 4 * length text

printed_bytes : (text : List ℕ) → All (λ b. b < 256) text → ArePrinted text
printed_bytes [] h = record { pieces = []; right = λ k d lt. absurd (omega arith); same = refl; whole = refl; clean = refl; short = omega arith }
printed_bytes (b ∷ bs) h =
    let p = printed_byte b (all_head (λ x. x < 256) b bs h) in
    let q = printed_bytes bs (all_tail (λ x. x < 256) b bs h) in
    let size = length-append (spelled b) (spelled_all bs) in
    record {
      pieces = p.piece ∷ q.pieces;
      right = all_cons (λ c. is_piece c ≡ true) p.piece q.pieces p.right q.right;
      same = ap (λ x. x ∷ bs) (sym p.same) ∙ ap (λ xs. piece_byte p.piece ∷ xs) q.same;
      whole = ap (λ x. x ++ spelled_all bs) (sym p.text) ∙ ap (λ x. piece_text p.piece ++ x) q.whole;
      clean = list_all-append is_printable (spelled b) (spelled_all bs) ∙ rw (p.clean, q.clean) refl;
      short = omega (arith, p.short, q.short, size);
    }

pub spelling_spells : (text : List ℕ) → All (λ b. b < 256) text → Spells (spelling text) text
spelling_spells text h = let p = printed_bytes text h in record { pieces = p.pieces; right = p.right; whole = ap (λ x. 34 ∷ x ++ 34 ∷ []) p.whole; same = p.same }

pub spelling_clean : (text : List ℕ) → All (λ b. b < 256) text → list_all is_printable (spelling text) ≡ true
spelling_clean text h = let p = printed_bytes text h in list_all-append is_printable (spelled_all text) (34 ∷ []) ∙ rw p.clean refl

pub spelling_short : (text : List ℕ) → All (λ b. b < 256) text → length (spelling text) ≤ 2 + 4 * length text
spelling_short text h = let p = printed_bytes text h in omega (arith, p.short, length-append (spelled_all text) (34 ∷ []))
