-- Lines that are taken one after another.
use Rattle.std.specs.Prelude.{◌≡◌, ℕ, ◌+◌, List, [], ◌∷◌, ◌++◌, length, Result, Ok, Err}

-- What a line does: the state before it, its number, the line, the answer, and the state that it leaves.
abbrev pub LineTakes : Type 0 → Type 0 → Type 1
LineTakes S E = S → ℕ → List ℕ → Result (Unit {0}) E → S → Type 0

-- lines are taken in turn, the first of which has this number
abbrev pub AreTaken : {S E : Type 0} → LineTakes S E → S → ℕ → List (List ℕ) → S → Type 0
AreTaken {S} takes s n [] t = s ≡ t
AreTaken {S} takes s n (l ∷ ls) t = (u : S) × takes s n l (Ok tt) u × AreTaken takes u (n + 1) ls t

-- the first of these lines that is refused, and why: the lines before it are taken, and what they leave is the state that
-- it finds
pub record IsFirstRefused {S E : Type 0} (takes : LineTakes S E) (s : S) (lines : List (List ℕ)) (e : E) (t : S) : Type 0 where
  pub before : List (List ℕ)
  pub line : List ℕ
  pub after : List (List ℕ)
  pub whole : lines ≡ before ++ line ∷ after
  pub state : S
  pub taken : AreTaken takes s 1 before state
  pub refused : takes state (length before + 1) line (Err e) t
