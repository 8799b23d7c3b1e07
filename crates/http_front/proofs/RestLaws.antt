-- The rest of a text in parts.
use Rattle.std.proofs.Common.{◌≡◌, ℕ, ◌+◌, ◌-◌, ◌<◌, ◌≤◌, List, [], length, drop, sym, ap, ◌∙◌, arith, length-drop}
use Rattle.std.proofs.lemmas.List.{drop-drop, drop_all}

-- a part of a list with something in it
pub some_rest : (n : ℕ) (xs : List ℕ) → n < length xs → ¬ (drop n xs ≡ [])
some_rest n xs below none =
    let left : length xs - n ≡ 0 = sym (length-drop n xs) ∙ ap length none in
    omega arith

pub rest_further : (text : List ℕ) (sent n : ℕ) → drop (sent + n) text ≡ drop n (drop sent text)
rest_further text sent n = sym (drop-drop n sent text)

pub rest_none : (text : List ℕ) (sent n : ℕ) → sent + n ≡ length text → [] ≡ drop n (drop sent text)
rest_none text sent n all = sym (drop-drop n sent text ∙ drop_all (sent + n) text (omega arith))

-- all is dropped, and no more is there
pub skip_over : (all size : ℕ) (xs : List ℕ) → all ≡ length xs → all ≤ size → drop all xs ≡ drop size xs
skip_over all size xs is le =
    let over : length xs ≤ size = omega (arith, is, le) in
    let whole : length xs ≤ all = omega (arith, is) in
    drop_all all xs whole ∙ sym (drop_all size xs over)
