-- Numbers, as texts write them: decimal digits, with no zero in front of others.
use Rattle.std.specs.Prelude.{ℕ, ◌+◌, ◌-◌, ◌*◌, ◌^◌, Bool, true, false, ◌&&◌, not, nat_le, nat_lt, ◌==◌, if◌then◌else◌, List, [], ◌∷◌, Option, Some, None}
use Rattle.std.specs.Option.{option_and_then}

-- one digit more, where the number stays below a bound
unfoldable pub with_digit : ℕ → ℕ → ℕ → Option ℕ
with_digit bound n b = if nat_le 48 b && nat_le b 57 && nat_lt (10 * n + (b - 48)) bound then Some (10 * n + (b - 48)) else None

-- the number below a bound whose digits so far are n and then these
abbrev pub decimal_from : ℕ → ℕ → List ℕ → Option ℕ
decimal_from bound n [] = Some n
decimal_from bound n (b ∷ bs) = option_and_then (λ m. decimal_from bound m bs) (with_digit bound n b)

-- there is a digit, and no zero stands in front of others
abbrev pub is_canonical : List ℕ → Bool
is_canonical [] = false
is_canonical (b ∷ []) = true
is_canonical (b ∷ c ∷ bs) = not (b == 48)

-- the number below a bound that is written so
unfoldable pub decimal_below : ℕ → List ℕ → Option ℕ
decimal_below bound token = if is_canonical token then decimal_from bound 0 token else None

-- the constant that is written so
unfoldable pub constant_of : List ℕ → Option ℕ
constant_of token = decimal_below (2 ^ 32) token
