-- Functions of numbers, as what stands at each place of a row.
use Rattle.std.specs.Prelude.{ℕ, zero, suc, ◌==◌, if◌then◌else◌, Option, None, Some, List, [], ◌∷◌}

-- f, with x at n
unfoldable pub upd : {X : Type 0} → (ℕ → X) → ℕ → X → ℕ → X
upd f n x m = if m == n then x else f m

abbrev pub before : {X : Type 0} → Option X → List X → List X
before None xs = xs
before (Some x) xs = x ∷ xs

-- what f has at n numbers, from k on
abbrev pub read : {X : Type 0} → (ℕ → Option X) → ℕ → ℕ → List X
read f k zero = []
read f k (suc n) = before (f k) (read f (suc k) n)
