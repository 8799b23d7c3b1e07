-- Words that are read one after another.
use Rattle.std.proofs.Common.{◌≡◌, ℕ, ◌+◌, ◌<◌, ◌≤◌, List, [], ◌∷◌, ◌++◌, length, take, drop, sym, ap, ◌∙◌, get_or, map, append_assoc, append-nil, arith}
use Rattle.std.specs.List.{concat, sum}
use Rattle.std.proofs.lemmas.List.{map-append, take_more}
use Rattle.std.proofs.lemmas.List.Folds.{concat-append}
use Rattle.std.proofs.lemmas.List.Sums.{sum_by-drop_more}

abbrev long : List ℕ → ℕ
long word = length word

module _ (lengths : List ℕ) (i d : ℕ) (within : i < length lengths) where
  pub word_fits : (rest : List ℕ) → length rest ≡ sum (drop i lengths) → get_or lengths i d ≤ length rest
  word_fits rest left = let e = sum_by-drop_more (λ (n : ℕ). n) lengths i d within in omega (arith, left, e)

  pub left_behind : (rest behind : List ℕ) → length behind + get_or lengths i d ≡ length rest → length rest ≡ sum (drop i lengths) → length behind ≡ sum (drop (i + 1) lengths)
  left_behind rest behind split left = let e = sum_by-drop_more (λ (n : ℕ). n) lengths i d within in omega (arith, split, left, e)

  pub long_more : (words : List (List ℕ)) (word : List ℕ) → map long words ≡ take i lengths → length word ≡ get_or lengths i d → map long (words ++ word ∷ []) ≡ take (i + 1) lengths
  long_more words word so_far e =
      map-append long words (word ∷ []) ∙ (ap (λ (ns : List ℕ). ns ++ long word ∷ []) so_far ∙ (ap (λ (n : ℕ). take i lengths ++ n ∷ []) e ∙ sym (take_more lengths i d within)))

pub whole_more : (words : List (List ℕ)) (word rest behind all : List ℕ) → rest ≡ word ++ behind → concat words ++ rest ≡ all → concat (words ++ word ∷ []) ++ behind ≡ all
whole_more words word rest behind all split so_far =
    ap (λ (bs : List ℕ). bs ++ behind) (concat-append words (word ∷ []) ∙ ap (λ (bs : List ℕ). concat words ++ bs) (append-nil word))
    ∙ (append_assoc (concat words) word behind ∙ (ap (λ (bs : List ℕ). concat words ++ bs) (sym split) ∙ so_far))
