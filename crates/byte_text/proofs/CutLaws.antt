-- A text that is not empty begins with its first line, and the other lines are those of the rest.
use Rattle.std.proofs.Common.{◌≡◌, ℕ, suc, ◌+◌, ◌<◌, Bool, true, false, cond, eqb, ltb, List, [], ◌∷◌, length, take, drop, refl, ap, ◌∙◌, arith}
use Rattle.std.proofs.Math.Numerals.{one-add}
use Rattle.std.proofs.lemmas.Bool.Decides.{nat_tests}
use Rattle.byte_text.specs.TextLines.{at_front, first_line, line_len, lines_of, width}

abbrev rest_of : List ℕ → List ℕ
rest_of bytes = drop (width (first_line bytes)) bytes

len_more : (b : ℕ) (bs : List ℕ) → eqb b 10 ≡ false → line_len (b ∷ bs) ≡ suc (line_len bs)
len_more b bs h = rw (h, one-add)

len_lf : (b : ℕ) (bs : List ℕ) → eqb b 10 ≡ true → line_len (b ∷ bs) ≡ 0
len_lf b bs h = rw h

ltb_suc : (m n : ℕ) → ltb (suc m) (suc n) ≡ ltb m n
ltb_suc m n = grind (arith, nat_tests)

-- a byte that is no LF stands in front of the first line
first_more : (b : ℕ) (bs : List ℕ) → eqb b 10 ≡ false → first_line (b ∷ bs) ≡ record { text = b ∷ (first_line bs).text; ended = (first_line bs).ended }
first_more b bs h = rw (len_more b bs h) (ap (λ e. record { text = b ∷ take (line_len bs) bs; ended = e }) (ltb_suc (line_len bs) (length bs)))

first_lf : (b : ℕ) (bs : List ℕ) → eqb b 10 ≡ true → first_line (b ∷ bs) ≡ record { text = []; ended = true }
first_lf b bs h = rw (len_lf b bs h) (ap (λ e. record { text = []; ended = e }) (grind (arith, nat_tests)))

rest_more : (b : ℕ) (bs : List ℕ) → eqb b 10 ≡ false → rest_of (b ∷ bs) ≡ rest_of bs
rest_more b bs h =
    let one_more : length (b ∷ (first_line bs).text) + cond (first_line bs).ended 1 0 ≡ suc (width (first_line bs)) = omega arith in
    ap (λ l. drop (width l) (b ∷ bs)) (first_more b bs h) ∙ ap (λ n. drop n (b ∷ bs)) one_more

rest_lf : (b : ℕ) (bs : List ℕ) → eqb b 10 ≡ true → rest_of (b ∷ bs) ≡ bs
rest_lf b bs h =
    let one : width (record { text = []; ended = true }) ≡ suc 0 = omega arith in
    ap (λ l. drop (width l) (b ∷ bs)) (first_lf b bs h) ∙ ap (λ n. drop n (b ∷ bs)) one

turn_by : (t : Bool) (b : ℕ) (bs : List ℕ) → eqb b 10 ≡ t → lines_of (b ∷ bs) ≡ first_line (b ∷ bs) ∷ lines_of (rest_of (b ∷ bs))
unfolding lines_of
turn_by true b bs h = let f = first_lf b bs h in let r = ap lines_of (rest_lf b bs h) in rw h (cc)
turn_by false b [] h = let f = first_more b [] h in let r = ap lines_of (rest_more b [] h) in rw h (cc)
turn_by false b (d ∷ ds) h =
    let f = first_more b (d ∷ ds) h in
    let r = ap lines_of (rest_more b (d ∷ ds) h) in
    let t = ap (at_front b) (turn_by (eqb d 10) d ds refl) in
    rw h (cc)

-- the first line and the others
pub lines_turn : (bytes : List ℕ) → 0 < length bytes → lines_of bytes ≡ first_line bytes ∷ lines_of (drop (width (first_line bytes)) bytes)
lines_turn [] p = absurd (omega arith)
lines_turn (b ∷ bs) p = turn_by (eqb b 10) b bs refl
