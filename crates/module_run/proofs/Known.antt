-- What is known of options, lists and tests.
use Rattle.std.proofs.Common.{◌≡◌, ℕ, ◌&&◌, Bool, true, false, List, [], ◌∷◌, length, Option, Some, None, is_some, refl, arith}

pub some_is : {X : Type 0} (a b : X) → Some a ≡ Some b → a ≡ b
some_is a b e = cc

pub and_false : (a : Bool) → (a && false) ≡ false
and_false true = refl
and_false false = refl

-- what is not there
pub no_lent : (o : Option ℕ) → is_some o ≡ false → o ≡ None
no_lent None e = refl
no_lent (Some b) e = absurd (cc)

pub no_names : (xs : List ℕ) → length xs ≡ 0 → xs ≡ []
no_names [] e = refl
no_names (x ∷ xs) e = absurd (omega (arith, e))
