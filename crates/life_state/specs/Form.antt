-- The form of a state: each thing is said in one way.
use Rattle.std.specs.Prelude.{◌≡◌, ℕ, ◌<◌, ◌≤◌, ◌≢◌, Bool, true, false, ◌&&◌, ◌||◌, not, ◌==◌, ◌⊎◌}
use Rattle.module_code.specs.declared.instr.PoolRef.TheVariants as pool
use Rattle.life_state.specs.declared.parts.Contents.TheVariants.{Empty}
use Rattle.life_state.specs.declared.parts.PoolState.{PoolState}
use Rattle.life_state.specs.States.{Homes, no_homes, only_null, BrigadeKnown, never_made, is_live_brigade, CursorKnown, Unset, Loose, In, End, InOrEnd, State}
use Rattle.life_state.specs.Facts.{is_set, is_apart}
use Rattle.life_state.specs.Order.{is_at_hand}
use Rattle.life_state.specs.Rules.{some_class}

-- a pool variable may be null, gone or live: one at least
abbrev pub some_pool : PoolState → Bool
some_pool v = v.null || v.gone || v.live

-- homes name the request's pool and declared ones alone
abbrev pub NamesDeclared : State → Homes → Type 0
NamesDeclared s h = (h.at pool.Conn ≡ false) × ((q : ℕ) → h.at (pool.Own q) ≡ true → q < s.pool_count)

-- At least one of null, gone, live. Where it may be live it has a mark, else none. Where it cannot be usable, no contents and no
-- homes.
pub record FormedBrigade (v : BrigadeKnown) : Type 0 where
  pub some : (v.null || v.gone || v.live) ≡ true
  pub marks : v.live ≡ (v.usable || v.passed)
  pub bare : v.usable ≡ false → (v.content ≡ Empty) × (v.homes ≡ no_homes)

-- a brigade is exactly live and usable
abbrev pub AtHand : State → ℕ → Type 0
AtHand s b = (b < 9) × (is_at_hand (s.brigades b) ≡ true)

-- a cursor is at a brigade that is at hand, and its bucket is of some class
abbrev pub FormedCursor : State → CursorKnown → Type 0
FormedCursor s Unset = Unit {0}
FormedCursor s (Loose t h) = (some_class t ≡ true) × NamesDeclared s h
FormedCursor s (In b t) = (some_class t ≡ true) × AtHand s b
FormedCursor s (End b) = AtHand s b
FormedCursor s (InOrEnd b t) = (some_class t ≡ true) × AtHand s b

-- a fact that has to be written: of two set cursors whose places do not imply it
abbrev pub is_to_write : State → ℕ → ℕ → Bool
is_to_write s c d = not (c == d) && is_set (s.cursors c) && is_set (s.cursors d) && not (is_apart (s.cursors c) (s.cursors d))

-- Variables that are not declared are null; `in` was never made, or is exactly live; facts are symmetric, and only those are
-- written that have to be.
pub record IsFormed (s : State) : Type 0 where
  pub pool_count : s.pool_count ≤ 8
  pub brigade_count : s.brigade_count ≤ 8
  pub pools : (q : ℕ) → some_pool (s.pools q) ≡ true
  pub no_pools : (q : ℕ) → s.pool_count ≤ q → s.pools q ≡ only_null
  pub brigades : (b : ℕ) → FormedBrigade (s.brigades b)
  pub homes : (b : ℕ) → NamesDeclared s (s.brigades b).homes
  pub no_brigades : (b : ℕ) → s.brigade_count ≤ b → b ≢ 8 → s.brigades b ≡ never_made
  pub brought : (s.brigades 8 ≡ never_made) ⊎ (is_live_brigade (s.brigades 8) ≡ true)
  pub cursors : (c : ℕ) → FormedCursor s (s.cursors c)
  pub no_cursors : (c : ℕ) → 9 ≤ c → s.cursors c ≡ Unset
  pub facts : (c d : ℕ) → s.facts c d ≡ true → is_to_write s c d ≡ true
  pub symmetric : (c d : ℕ) → s.facts c d ≡ s.facts d c
