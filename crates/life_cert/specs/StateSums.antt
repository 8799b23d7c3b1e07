-- A short sum of a state, by which most states that differ are told apart. Two states of which neither says less have one sum.
use Rattle.std.specs.Prelude.{ℕ, zero, suc, ◌+◌, ◌*◌, ◌^◌, ◌%◌, Bool, if◌then◌else◌, Option, Some, None}
use Rattle.module_code.specs.declared.instr.PoolRef.TheVariants as pool
use Rattle.life_state.specs.declared.parts.Classes.{Classes}
use Rattle.life_state.specs.declared.parts.PoolState.{PoolState}
use Rattle.life_state.specs.States.{Homes, BrigadeKnown, CursorKnown, Unset, Loose, In, End, InOrEnd, State}
use Rattle.life_state.specs.Order.{rank}

abbrev pub digit : Bool → ℕ
digit b = if b then 1 else 0

abbrev pub three_digits : Bool → Bool → Bool → ℕ
three_digits a b c = 4 * digit a + 2 * digit b + digit c

abbrev pub own_number : (ℕ → Bool) → ℕ
own_number own = 32 * three_digits (own 0) (own 1) (own 2) + 4 * three_digits (own 3) (own 4) (own 5) + 2 * digit (own 6) + digit (own 7)

abbrev pub homes_number : Homes → ℕ
homes_number h = 256 * three_digits h.call h.dead (h.at pool.Req) + own_number (λ q. h.at (pool.Own q))

abbrev pub pool_number : PoolState → ℕ
pool_number v = three_digits v.null v.gone v.live

abbrev pub classes_number : Classes → ℕ
classes_number t = three_digits t.bytes t.flush t.eos

unfoldable pub brigade_number : BrigadeKnown → ℕ
brigade_number v = 65536 * (8 * (2 * digit v.usable + digit v.passed) + three_digits v.null v.gone v.live) + 2048 * rank v.content + homes_number v.homes

unfoldable pub cursor_number : CursorKnown → ℕ
cursor_number Unset = 0
cursor_number (Loose t h) = 65536 + 2048 * classes_number t + homes_number h
cursor_number (In b t) = 131072 + 8 * b + classes_number t
cursor_number (End b) = 262144 + b
cursor_number (InOrEnd b t) = 524288 + 8 * b + classes_number t

-- a number is added to a sum
abbrev pub summed : ℕ → ℕ → ℕ
summed sum number = (31 * sum + number) % 2 ^ 32

unfoldable pub sum_below : ℕ → (ℕ → ℕ) → ℕ → ℕ
sum_below zero f sum = sum
sum_below (suc n) f sum = summed (sum_below n f sum) (f n)

unfoldable pub state_sum : State → ℕ
state_sum s =
    sum_below 9 (λ c. cursor_number (s.cursors c)) (sum_below 9 (λ b. brigade_number (s.brigades b))
    (sum_below 8 (λ q. pool_number (s.pools q)) (digit s.sent)))

abbrev pub line_sum : Option State → ℕ
line_sum None = 0
line_sum (Some s) = state_sum s
