-- Looking for the first item of a list that passes a test.
use Rattle.std.proofs.Common.{◌≡◌, ℕ, ◌+◌, ◌<◌, ◌≤◌, zero, suc, Bool, true, false, List, [], ◌∷◌, Option, Some, None, length, drop, get_or, refl, ap, sym, ◌∙◌, arith, if◌then◌else◌}
use Rattle.std.specs.List.{find}
use Rattle.std.proofs.lemmas.List.{drop_all}

find_next : {A : Type 0} (p : A → Bool) (xs : List A) (i : ℕ) (d : A) → i < length xs
    → find p (drop i xs) ≡ (if p (get_or xs i d) then Some (get_or xs i d) else find p (drop (i + 1) xs))
find_next p [] i d h = absurd (omega arith)
find_next p (x ∷ xs) zero d h = refl
find_next p (x ∷ xs) (suc i) d h =
    find_next p xs i d (omega arith) ∙ ap (λ n. if p (get_or xs i d) then Some (get_or xs i d) else find p (drop n (x ∷ xs))) (further i)
  where
    further : (i : ℕ) → suc (i + 1) ≡ suc i + 1
    further i = omega arith

pub find_found : {A : Type 0} (p : A → Bool) (xs : List A) (i : ℕ) (d : A) (all : Option A) → i < length xs → p (get_or xs i d) ≡ true → find p (drop i xs) ≡ all
    → Some (get_or xs i d) ≡ all
find_found p xs i d all h e q = sym (find_next p xs i d h ∙ rw e refl) ∙ q

pub find_passed : {A : Type 0} (p : A → Bool) (xs : List A) (i : ℕ) (d : A) (all : Option A) → i < length xs → p (get_or xs i d) ≡ false → find p (drop i xs) ≡ all
    → find p (drop (i + 1) xs) ≡ all
find_passed p xs i d all h e q = sym (find_next p xs i d h ∙ rw e refl) ∙ q

pub find_past : {A : Type 0} (p : A → Bool) (xs : List A) (i : ℕ) (all : Option A) → length xs ≤ i → find p (drop i xs) ≡ all → None ≡ all
find_past p xs i all h q = ap (find p) (sym (drop_all i xs h)) ∙ q
