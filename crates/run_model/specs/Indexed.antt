-- Total functions of an index, which stand for the variables of an instance and the cursors of a call.
use Rattle.std.specs.Prelude.{ℕ, zero, suc, Bool, false, ◌||◌, ◌==◌, if◌then◌else◌}

-- f with the value v at i
unfoldable pub upd : {X : Type 0} → (ℕ → X) → ℕ → X → ℕ → X
upd f i v k = if k == i then v else f k

-- whether the test holds at some index below n
unfoldable pub any_below : ℕ → (ℕ → Bool) → Bool
any_below zero p = false
any_below (suc n) p = p n || any_below n p
