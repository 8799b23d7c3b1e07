-- What is known of an instance and its call before an instruction: an abstract state. Pools, brigades and cursors are
-- numbered as in a run: brigade 8 is `in`, cursor 8 is the read cursor.
use Rattle.std.specs.Prelude.{ℕ, Bool, true, false, ◌&&◌, ◌||◌, not, ◌==◌, nat_lt}
use Rattle.module_code.specs.declared.instr.PoolRef.{PoolRef}
use Rattle.module_code.specs.declared.instr.PoolRef.TheVariants as pool
use Rattle.run_model.specs.Indexed.{upd, any_below}
use Rattle.life_state.specs.declared.parts.Contents.{Contents}
use Rattle.life_state.specs.declared.parts.Contents.TheVariants.{Empty}
use Rattle.life_state.specs.declared.parts.Classes.{Classes}
use Rattle.life_state.specs.declared.parts.PoolState.{PoolState}

-- What a bucket may live as long as. call: a call, a pool of another filter or the request's pool, as long as it lives
-- through this call; never a pool of this instance; between calls, nothing. dead: a pool of this instance or the request's,
-- live or ended. at: this pool and those above it. A bucket without a home, or whose home is the connection's pool, is
-- always meant.
pub record Homes : Type 0 where
  pub call : Bool
  pub dead : Bool
  pub at : PoolRef → Bool

-- What a brigade variable may be; where it may be live, whether usable or passed; where it may be usable, what stands in it and
-- the homes of its buckets. Where it cannot be usable the last two are the least ones.
pub record BrigadeKnown : Type 0 where
  pub null : Bool
  pub gone : Bool
  pub live : Bool
  pub usable : Bool
  pub passed : Bool
  pub content : Contents
  pub homes : Homes

-- What is known of a cursor.
pub data CursorKnown : Type 0 where
  -- nothing
  Unset : CursorKnown
  -- it is at a loose bucket
  Loose : Classes → Homes → CursorKnown
  -- it is at a bucket of the brigade in this variable
  In : ℕ → Classes → CursorKnown
  -- it is the end of that brigade
  End : ℕ → CursorKnown
  -- one or the other
  InOrEnd : ℕ → Classes → CursorKnown

-- How many variables are declared; whether an EOS may have been passed in this request; the variables and cursors; which
-- cursors are written to be at two different buckets.
pub record State : Type 0 where
  pub pool_count : ℕ
  pub brigade_count : ℕ
  pub sent : Bool
  pub pools : ℕ → PoolState
  pub brigades : ℕ → BrigadeKnown
  pub cursors : ℕ → CursorKnown
  pub facts : ℕ → ℕ → Bool

-- Homes.

abbrev pub no_homes : Homes
no_homes = record { call = false; dead = false; at = λ k. false }

abbrev pub only_call : Homes
only_call = record { call = true; dead = false; at = λ k. false }

-- the home that a pool is; the connection's is none that has to be told, and variables have numbers below 8
abbrev pub is_home : PoolRef → PoolRef → Bool
is_home pool.Req pool.Req = true
is_home (pool.Own i) (pool.Own j) = i == j && nat_lt i 8
is_home _ _ = false

abbrev pub home_in : PoolRef → Homes
home_in p = record { call = false; dead = false; at = is_home p }

abbrev pub homes_join : Homes → Homes → Homes
homes_join a b = record { call = a.call || b.call; dead = a.dead || b.dead; at = λ k. a.at k || b.at k }

-- whether some pool is meant that passes the test
abbrev pub any_place : (PoolRef → Bool) → Bool
any_place f = f pool.Req || any_below 8 (λ i. f (pool.Own i))

-- the homes where the pools that pass the test are dead
abbrev pub dead_where : (PoolRef → Bool) → Homes → Homes
dead_where gone h = record { call = h.call; dead = h.dead || any_place (λ k. gone k && h.at k); at = λ k. h.at k && not (gone k) }

-- Variables.

abbrev pub only_null : PoolState
only_null = record { null = true; gone = false; live = false }

abbrev pub only_live : PoolState
only_live = record { null = false; gone = false; live = true }

abbrev pub is_live_alone : PoolState → Bool
is_live_alone v = v.live && not v.null && not v.gone

-- its pool is dead, if there was one
abbrev pub ended_pool : PoolState → PoolState
ended_pool v = record { null = v.null; gone = v.gone || v.live; live = false }

abbrev pub never_made : BrigadeKnown
never_made = record { null = true; gone = false; live = false; usable = false; passed = false; content = Empty; homes = no_homes }

-- live and usable, with these buckets
abbrev pub holds : Contents → Homes → BrigadeKnown
holds content homes = record { null = false; gone = false; live = true; usable = true; passed = false; content = content; homes = homes }

-- live and passed
abbrev pub passed_on : BrigadeKnown
passed_on = record { null = false; gone = false; live = true; usable = false; passed = true; content = Empty; homes = no_homes }

abbrev pub is_live_brigade : BrigadeKnown → Bool
is_live_brigade v = v.live && not v.null && not v.gone

abbrev pub is_usable_alone : BrigadeKnown → Bool
is_usable_alone v = v.usable && not v.passed

-- its brigade is dead, if there was one
abbrev pub ended_brigade : BrigadeKnown → BrigadeKnown
ended_brigade v = record { null = v.null; gone = v.gone || v.live; live = false; usable = false; passed = false; content = Empty; homes = no_homes }

abbrev pub with_homes : (Homes → Homes) → BrigadeKnown → BrigadeKnown
with_homes change v = record v { homes = change v.homes }

-- a cursor's homes are changed
abbrev pub cursor_homes : (Homes → Homes) → CursorKnown → CursorKnown
cursor_homes change (Loose s h) = Loose s (change h)
cursor_homes change Unset = Unset
cursor_homes change (In b s) = In b s
cursor_homes change (End b) = End b
cursor_homes change (InOrEnd b s) = InOrEnd b s

abbrev pub set_pool : ℕ → PoolState → State → State
set_pool q v s = record s { pools = upd s.pools q v }

abbrev pub set_brigade : ℕ → BrigadeKnown → State → State
set_brigade b v s = record s { brigades = upd s.brigades b v }
