-- The form of a state as one test, over the pools, brigades and cursors that there are.
use Rattle.std.specs.Prelude.{ℕ, Bool, true, ◌&&◌, ◌||◌, not, ◌==◌, nat_lt, nat_le}
use Rattle.std.specs.Bool.{beq}
use Rattle.module_code.specs.declared.instr.PoolRef.TheVariants as pool
use Rattle.life_state.specs.declared.parts.PoolState.{PoolState}
use Rattle.life_state.specs.States.{Homes, BrigadeKnown, is_live_brigade, CursorKnown, Unset, Loose, In, End, InOrEnd, State}
use Rattle.life_state.specs.Order.{all_below, is_at_hand}
use Rattle.life_state.specs.Rules.{is_empty, some_class}
use Rattle.life_state.specs.Form.{some_pool, is_to_write}

-- homes name the request's pool, and pools with numbers below n
abbrev pub names_below : ℕ → Homes → Bool
names_below n h = not (h.at pool.Conn) && all_below 8 (λ q. nat_lt q n || not (h.at (pool.Own q)))

abbrev pub is_free : Homes → Bool
is_free h = not h.call && not h.dead && not (h.at pool.Req) && names_below 0 h

abbrev pub is_null : PoolState → Bool
is_null v = v.null && not v.gone && not v.live

abbrev pub is_unmade : BrigadeKnown → Bool
is_unmade v = v.null && not v.gone && not v.live

abbrev pub is_formed_pool : State → ℕ → Bool
is_formed_pool s q = some_pool (s.pools q) && (nat_lt q s.pool_count || is_null (s.pools q))

-- a mark exactly where it may be live; contents and homes only where it may be usable
abbrev pub is_formed_brigade : BrigadeKnown → Bool
is_formed_brigade v = (v.null || v.gone || v.live) && beq v.live (v.usable || v.passed) && (v.usable || (is_empty v.content && is_free v.homes))

abbrev pub is_formed_place : State → ℕ → Bool
is_formed_place s b =
    is_formed_brigade (s.brigades b) && names_below s.pool_count (s.brigades b).homes && (b == 8 || nat_lt b s.brigade_count || is_unmade (s.brigades b))

-- a brigade is exactly live and usable
abbrev pub has_at_hand : State → ℕ → Bool
has_at_hand s b = nat_lt b 9 && is_at_hand (s.brigades b)

abbrev pub is_formed_cursor : State → CursorKnown → Bool
is_formed_cursor s Unset = true
is_formed_cursor s (Loose t h) = some_class t && names_below s.pool_count h
is_formed_cursor s (In b t) = some_class t && has_at_hand s b
is_formed_cursor s (End b) = has_at_hand s b
is_formed_cursor s (InOrEnd b t) = some_class t && has_at_hand s b

-- written only where it has to be, and both ways
abbrev pub is_formed_fact : State → ℕ → ℕ → Bool
is_formed_fact s c d = (is_to_write s c d || not (s.facts c d)) && beq (s.facts c d) (s.facts d c)

abbrev pub is_formed_at : State → ℕ → Bool
is_formed_at s k = is_formed_place s k && is_formed_cursor s (s.cursors k) && all_below 9 (is_formed_fact s k)

unfoldable pub is_formed : State → Bool
is_formed s =
    nat_le s.pool_count 8 && nat_le s.brigade_count 8 && (is_unmade (s.brigades 8) || is_live_brigade (s.brigades 8))
    && all_below 8 (is_formed_pool s) && all_below 9 (is_formed_at s)
