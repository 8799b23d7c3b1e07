-- The lines of a text.
use Rattle.std.specs.Prelude.{ℕ, ◌+◌, Bool, true, false, nat_lt, ◌==◌, if◌then◌else◌, List, [], ◌∷◌, ◌++◌, length, take}
use Rattle.std.specs.List.{position_or_len}

-- a line, and whether the LF that ends it is there
pub record RawLine : Type 0 where
  pub text : List ℕ
  pub ended : Bool

-- A byte that is no LF stands at the front of the line that follows.
abbrev pub at_front : ℕ → List RawLine → List RawLine
at_front b [] = (record { text = b ∷ []; ended = false }) ∷ []
at_front b (l ∷ ls) = (record l { text = b ∷ l.text }) ∷ ls

unfoldable pub lines_of : List ℕ → List RawLine
lines_of [] = []
lines_of (b ∷ bs) = if b == 10 then (record { text = []; ended = true }) ∷ lines_of bs else at_front b (lines_of bs)

-- how many bytes stand before the first LF
abbrev pub line_len : List ℕ → ℕ
line_len bytes = position_or_len (λ b. b == 10) bytes

abbrev pub first_line : List ℕ → RawLine
first_line bytes = record { text = take (line_len bytes) bytes; ended = nat_lt (line_len bytes) (length bytes) }

-- how many bytes a line takes, with its LF
abbrev pub width : RawLine → ℕ
width l = length l.text + (if l.ended then 1 else 0)

-- the lines of a text that end with an LF, where the first has begun with these bytes; and what stands behind the last LF
abbrev pub lines_from : List ℕ → List ℕ → List (List ℕ)
lines_from line [] = []
lines_from line (b ∷ bs) = if b == 10 then line ∷ lines_from [] bs else lines_from (line ++ b ∷ []) bs

abbrev pub rest_from : List ℕ → List ℕ → List ℕ
rest_from line [] = line
rest_from line (b ∷ bs) = if b == 10 then rest_from [] bs else rest_from (line ++ b ∷ []) bs
