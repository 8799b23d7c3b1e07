-- The order of states: the greater one says less. Sets by inclusion; contents from the fewest on; an unset cursor is above all,
-- and 'at a bucket or the end' above both.
use Rattle.std.specs.Prelude.{ℕ, zero, suc, Bool, true, false, ◌&&◌, ◌||◌, not, nat_le, ◌==◌, if◌then◌else◌}
use Rattle.module_code.specs.declared.instr.PoolRef.{PoolRef}
use Rattle.module_code.specs.declared.instr.PoolRef.TheVariants as pool
use Rattle.life_state.specs.declared.parts.Contents.{Contents}
use Rattle.life_state.specs.declared.parts.Contents.TheVariants.{Empty, Flushes, NoEos, NoLateData, Any}
use Rattle.life_state.specs.declared.parts.Classes.{Classes}
use Rattle.life_state.specs.declared.parts.PoolState.{PoolState}
use Rattle.life_state.specs.States.{Homes, homes_join, BrigadeKnown, is_live_brigade, is_usable_alone, CursorKnown, Unset, Loose, In, End, InOrEnd, State}
use Rattle.life_state.specs.Facts.{place_of, known, facts_of}

abbrev pub implies : Bool → Bool → Bool
implies a b = not a || b

-- whether the test holds at each index below n
unfoldable pub all_below : ℕ → (ℕ → Bool) → Bool
all_below zero p = true
all_below (suc n) p = p n && all_below n p

abbrev pub rank : Contents → ℕ
rank Empty = 0
rank Flushes = 1
rank NoEos = 2
rank NoLateData = 3
rank Any = 4

abbrev pub content_leq : Contents → Contents → Bool
content_leq a b = nat_le (rank a) (rank b)

abbrev pub content_join : Contents → Contents → Contents
content_join a b = if content_leq a b then b else a

abbrev pub classes_leq : Classes → Classes → Bool
classes_leq a b = implies a.bytes b.bytes && implies a.flush b.flush && implies a.eos b.eos

abbrev pub classes_join : Classes → Classes → Classes
classes_join a b = record { bytes = a.bytes || b.bytes; flush = a.flush || b.flush; eos = a.eos || b.eos }

abbrev pub pool_leq : PoolState → PoolState → Bool
pool_leq a b = implies a.null b.null && implies a.gone b.gone && implies a.live b.live

abbrev pub pool_join : PoolState → PoolState → PoolState
pool_join a b = record { null = a.null || b.null; gone = a.gone || b.gone; live = a.live || b.live }

-- each pool that the first has is one of the second
abbrev pub places_leq : (PoolRef → Bool) → (PoolRef → Bool) → Bool
places_leq f g = implies (f pool.Req) (g pool.Req) && all_below 8 (λ i. implies (f (pool.Own i)) (g (pool.Own i)))

abbrev pub homes_leq : Homes → Homes → Bool
homes_leq a b = implies a.call b.call && implies a.dead b.dead && places_leq a.at b.at

abbrev pub variable_leq : BrigadeKnown → BrigadeKnown → Bool
variable_leq a b = implies a.null b.null && implies a.gone b.gone && implies a.live b.live

abbrev pub marks_leq : BrigadeKnown → BrigadeKnown → Bool
marks_leq a b = implies a.usable b.usable && implies a.passed b.passed

unfoldable pub brigade_leq : BrigadeKnown → BrigadeKnown → Bool
brigade_leq a b = variable_leq a b && marks_leq a b && content_leq a.content b.content && homes_leq a.homes b.homes

unfoldable pub brigade_join : BrigadeKnown → BrigadeKnown → BrigadeKnown
brigade_join a b = record {
  null = a.null || b.null;
  gone = a.gone || b.gone;
  live = a.live || b.live;
  usable = a.usable || b.usable;
  passed = a.passed || b.passed;
  content = content_join a.content b.content;
  homes = homes_join a.homes b.homes;
}

abbrev pub cursor_leq : CursorKnown → CursorKnown → Bool
cursor_leq a Unset = true
cursor_leq (Loose s h) (Loose t k) = classes_leq s t && homes_leq h k
cursor_leq (In b s) (In c t) = b == c && classes_leq s t
cursor_leq (In b s) (InOrEnd c t) = b == c && classes_leq s t
cursor_leq (End b) (End c) = b == c
cursor_leq (End b) (InOrEnd c t) = b == c
cursor_leq (InOrEnd b s) (InOrEnd c t) = b == c && classes_leq s t
cursor_leq _ _ = false

-- the least cursor above two of one place
abbrev pub join_here : CursorKnown → CursorKnown → CursorKnown
join_here (Loose s h) (Loose t k) = Loose (classes_join s t) (homes_join h k)
join_here (In b s) (In c t) = In b (classes_join s t)
join_here (In b s) (End c) = InOrEnd b s
join_here (In b s) (InOrEnd c t) = InOrEnd b (classes_join s t)
join_here (End b) (In c t) = InOrEnd b t
join_here (End b) (End c) = End b
join_here (End b) (InOrEnd c t) = InOrEnd b t
join_here (InOrEnd b s) (In c t) = InOrEnd b (classes_join s t)
join_here (InOrEnd b s) (End c) = InOrEnd b s
join_here (InOrEnd b s) (InOrEnd c t) = InOrEnd b (classes_join s t)
join_here _ _ = Unset

-- the least cursor above both, where the brigades stay exactly usable
unfoldable pub cursor_join : CursorKnown → CursorKnown → CursorKnown
cursor_join a b = if place_of a == place_of b then join_here a b else Unset

-- a cursor at a brigade needs it exactly live and exactly usable
abbrev pub is_at_hand : BrigadeKnown → Bool
is_at_hand v = is_live_brigade v && is_usable_alone v

abbrev pub if_at_hand : BrigadeKnown → CursorKnown → CursorKnown
if_at_hand v c = if is_at_hand v then c else Unset

abbrev pub kept_cursor : (ℕ → BrigadeKnown) → CursorKnown → CursorKnown
kept_cursor brigades Unset = Unset
kept_cursor brigades (Loose s h) = Loose s h
kept_cursor brigades (In b s) = if_at_hand (brigades b) (In b s)
kept_cursor brigades (End b) = if_at_hand (brigades b) (End b)
kept_cursor brigades (InOrEnd b s) = if_at_hand (brigades b) (InOrEnd b s)

abbrev pub same_variables : State → State → Bool
same_variables a b = (a.pool_count == b.pool_count) && (a.brigade_count == b.brigade_count)

abbrev pub pools_leq : State → State → Bool
pools_leq a b = all_below 8 (λ q. pool_leq (a.pools q) (b.pools q))

abbrev pub brigades_leq : State → State → Bool
brigades_leq a b = all_below 9 (λ v. brigade_leq (a.brigades v) (b.brigades v))

abbrev pub cursors_leq : State → State → Bool
cursors_leq a b = all_below 9 (λ c. cursor_leq (a.cursors c) (b.cursors c))

-- each written fact of b is written or implied in a
abbrev pub facts_leq : State → State → Bool
facts_leq a b = all_below 9 (λ c. all_below 9 (λ d. implies (b.facts c d) (known a c d)))

-- a is below b
unfoldable pub leq : State → State → Bool
leq a b = same_variables a b && implies a.sent b.sent && pools_leq a b && brigades_leq a b && cursors_leq a b && facts_leq a b

-- the variables and cursors of two states together
abbrev pub joined_pools : State → State → ℕ → PoolState
joined_pools a b q = pool_join (a.pools q) (b.pools q)

abbrev pub joined_brigades : State → State → ℕ → BrigadeKnown
joined_brigades a b v = brigade_join (a.brigades v) (b.brigades v)

abbrev pub joined_cursors : State → State → ℕ → CursorKnown
joined_cursors a b c = kept_cursor (joined_brigades a b) (cursor_join (a.cursors c) (b.cursors c))

-- the least state above two of the same variables
unfoldable pub join : State → State → State
join a b = record {
  pool_count = a.pool_count;
  brigade_count = a.brigade_count;
  sent = a.sent || b.sent;
  pools = joined_pools a b;
  brigades = joined_brigades a b;
  cursors = joined_cursors a b;
  facts = facts_of (λ c d. known a c d && known b c d) (joined_cursors a b);
}
