-- The numbers among the words of a command line.
use Rattle.std.specs.Prelude.{ℕ, ◌^◌, Bool, true, false, ◌==◌, if◌then◌else◌, List, [], ◌∷◌, Option, None}
use Rattle.byte_text.specs.Bytes.{token, after_token}
use Rattle.byte_text.specs.Numbers.{decimal_below}

-- the number below 2^64 that stands after a space, and what follows it
abbrev pub number_at : List ℕ → Option ℕ
number_at [] = None
number_at (b ∷ bs) = if b == 32 then decimal_below (2 ^ 64) (token bs) else None

abbrev pub after_number : List ℕ → List ℕ
after_number [] = []
after_number (b ∷ bs) = after_token bs

-- nothing follows, or a space does
abbrev pub is_parted : List ℕ → Bool
is_parted [] = true
is_parted (b ∷ bs) = b == 32

abbrev pub is_empty : {A : Type 0} → List A → Bool
is_empty [] = true
is_empty (x ∷ xs) = false
