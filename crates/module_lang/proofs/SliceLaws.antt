-- Items of lists that are joined.
use Rattle.std.proofs.Common.{◌≡◌, ℕ, zero, suc, ◌+◌, ◌-◌, ◌<◌, ◌≤◌, List, [], ◌∷◌, ◌++◌, length, Some, refl, ◌∙◌, ap, subst, arith}
use Rattle.std.specs.Prelude.{All, slice_get}
use Rattle.std.proofs.lemmas.Option.{slice_get_within, get_or_from_slice_get}

pub front_item : {X : Type 0} (xs ys : List X) (k : ℕ) → k < length xs → slice_get (xs ++ ys) k ≡ slice_get xs k
front_item [] ys k h = absurd (omega arith)
front_item (x ∷ xs) ys zero h = refl
front_item (x ∷ xs) ys (suc k) h = front_item xs ys k (omega arith)

behind : {X : Type 0} (xs ys : List X) (j : ℕ) → slice_get (xs ++ ys) (length xs + j) ≡ slice_get ys j
behind [] ys j = let e : 0 + j ≡ j = omega arith in rw e refl
behind (x ∷ xs) ys j = let e : length (x ∷ xs) + j ≡ suc (length xs + j) = omega arith in rw e (behind xs ys j)

pub back_item : {X : Type 0} (xs ys : List X) (k : ℕ) → length xs ≤ k → slice_get (xs ++ ys) k ≡ slice_get ys (k - length xs)
back_item xs ys k h = let e : k ≡ length xs + (k - length xs) = omega arith in ap (slice_get (xs ++ ys)) e ∙ behind xs ys (k - length xs)

-- what holds of each item holds of the one at a place
pub item_of : {X : Type 0} (P : X → Type 0) (xs : List X) (k : ℕ) (x : X) → All P xs → slice_get xs k ≡ Some x → P x
item_of P xs k x h e = subst P (get_or_from_slice_get xs k x x e) (h k x (slice_get_within xs k x e))

-- the last item, or one of those before
pub pushed_item : {X : Type 0} (P : ℕ → X → Type 0) (xs : List X) (y : X) → ((k : ℕ) (x : X) → slice_get xs k ≡ Some x → P k x) → P (length xs) y → (k : ℕ) (x : X)
    → slice_get (xs ++ y ∷ []) k ≡ Some x → P k x
pushed_item P [] y h last zero x e = let s : y ≡ x = cc e in subst (P 0) s last
pushed_item P [] y h last (suc k) x e = absurd (cc e)
pushed_item P (z ∷ xs) y h last zero x e = h 0 x e
pushed_item P (z ∷ xs) y h last (suc k) x e = pushed_item (λ j w. P (suc j) w) xs y (λ j w. h (suc j) w) last k x e

pub none_of : {X : Type 0} (P : X → Type 0) (xs : List X) → length xs ≡ 0 → All P xs
none_of P xs h = λ k d lt. absurd (omega arith)
