-- One text written after another.
use Rattle.std.specs.Prelude.{◌≡◌, ℕ, zero, suc, ◌+◌, ◌<◌, List, [], ◌∷◌, ◌++◌, length, take, refl, true, false, not}
use Rattle.run_model.specs.Pools.{is_empty}
use Rattle.std.proofs.Common.{sym, ap, get_or, add-one}
use Rattle.std.proofs.lemmas.List.{append-nil, take_more}
use Rattle.std.proofs.lemmas.List.Concat.{flat_map-append}
use Rattle.pool_tree.specs.Printed.{margin, spaced, spaced_all, marked, marked_all}

true≢false : true ≡ false → ⊥
true≢false h = cc

margin_turn : (n : ℕ) → 32 ∷ 32 ∷ margin n ≡ margin n ++ 32 ∷ 32 ∷ []
unfolding margin
margin_turn zero = refl
margin_turn (suc n) = ap (λ xs. 32 ∷ 32 ∷ xs) (margin_turn n)

pub margin_more : (n : ℕ) → margin (n + 1) ≡ margin n ++ 32 ∷ 32 ∷ []
unfolding margin
margin_more n = rw add-one (margin_turn n)

pub spaced_more : {T : Type 0} (text : T → List ℕ) (xs : List T) (i : ℕ) (x : T) → i < length xs → x ≡ get_or xs i x
    → spaced_all text (take (i + 1) xs) ≡ spaced_all text (take i xs) ++ spaced (text x)
unfolding spaced_all
spaced_more text xs i x within at =
    rw (take_more xs i x within, ← at, flat_map-append (λ x. spaced (text x)) (take i xs) (x ∷ []), append-nil (spaced (text x)))

pub spaced_none : (xs : List ℕ) → not (is_empty xs) ≡ false → [] ≡ spaced xs
unfolding spaced
spaced_none [] none = refl
spaced_none (x ∷ xs) none = absurd (true≢false none)

pub spaced_some : (xs : List ℕ) → not (is_empty xs) ≡ true → 32 ∷ xs ≡ spaced xs
unfolding spaced
spaced_some [] some = absurd (true≢false (sym some))
spaced_some (x ∷ xs) some = refl

-- The same with a caret.

pub marked_more : {T : Type 0} (text : T → List ℕ) (xs : List T) (i : ℕ) (x : T) → i < length xs → x ≡ get_or xs i x
    → marked_all text (take (i + 1) xs) ≡ marked_all text (take i xs) ++ marked (text x)
unfolding marked_all
marked_more text xs i x within at =
    rw (take_more xs i x within, ← at, flat_map-append (λ x. marked (text x)) (take i xs) (x ∷ []), append-nil (marked (text x)))

pub marked_none : (xs : List ℕ) → not (is_empty xs) ≡ false → [] ≡ marked xs
unfolding marked
marked_none [] none = refl
marked_none (x ∷ xs) none = absurd (true≢false none)

pub marked_some : (xs : List ℕ) → not (is_empty xs) ≡ true → 32 ∷ 94 ∷ xs ≡ marked xs
unfolding marked
marked_some [] some = absurd (true≢false (sym some))
marked_some (x ∷ xs) some = refl
