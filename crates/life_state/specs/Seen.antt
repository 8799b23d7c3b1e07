-- What the code's values stand for.
use Rattle.std.specs.Prelude.{ℕ, Bool, true, false, ◌&&◌, ◌==◌, List, [], replicate, slice_index_or, Option, Some, None, Result, Ok, Err}
use Rattle.module_code.specs.declared.instr.PoolRef.{PoolRef}
use Rattle.module_code.specs.declared.instr.PoolRef.TheVariants as pool
use Rattle.life_state.specs.declared.parts.Contents.TheVariants.{Empty}
use Rattle.life_state.specs.declared.parts.PoolSet.{PoolSet}
use Rattle.life_state.specs.declared.parts.PoolState.{PoolState}
use Rattle.life_state.specs.declared.parts.HomeSet.{HomeSet}
use Rattle.life_state.specs.declared.parts.BrigadeState.{BrigadeState}
use Rattle.life_state.specs.declared.parts.CursorState.{CursorState}
use Rattle.life_state.specs.declared.parts.CursorState.TheVariants as cursor
use Rattle.life_state.specs.declared.state.State as code
use Rattle.life_state.specs.declared.successors.Successors.{Successors}
use Rattle.run_model.specs.declared.fault.FaultKind.{FaultKind}
use Rattle.life_state.specs.declared.motions.Motion.{Motion}
use Rattle.life_state.specs.declared.motions.Motion.TheVariants as motion
use Rattle.life_state.specs.declared.facts.Others.{Others}
use Rattle.life_state.specs.declared.facts.Others.TheVariants as others
use Rattle.life_state.specs.declared.facts.Keep.{Keep}
use Rattle.life_state.specs.declared.facts.Keep.TheVariants as keep
use Rattle.life_state.specs.States.{Homes, only_null, BrigadeKnown, CursorKnown, Unset, Loose, In, End, InOrEnd, State}
use Rattle.life_state.specs.Facts.{known, known_but, forgotten}
use Rattle.life_state.specs.Rules.{emptied, left, carried, split_off, Edges}

abbrev pub seen_pools : PoolSet → PoolRef → Bool
seen_pools m pool.Conn = false
seen_pools m pool.Req = m.req
seen_pools m (pool.Own i) = slice_index_or m.own i false

abbrev pub seen_homes : HomeSet → Homes
seen_homes h = record { call = h.call; dead = h.dead; at = seen_pools h.pools }

abbrev pub seen_brigade : BrigadeState → BrigadeKnown
seen_brigade v = record {
  null = v.null;
  gone = v.gone;
  live = v.live;
  usable = v.usable;
  passed = v.passed;
  content = v.content;
  homes = seen_homes v.homes;
}

abbrev pub seen_cursor : CursorState → CursorKnown
seen_cursor cursor.Unset = Unset
seen_cursor (cursor.Loose s h) = Loose s (seen_homes h)
seen_cursor (cursor.In b s) = In b s
seen_cursor (cursor.End b) = End b
seen_cursor (cursor.InOrEnd b s) = InOrEnd b s

-- what stands in for a brigade variable beyond the last
abbrev pub unmade : BrigadeState
unmade = record {
  null = true;
  gone = false;
  live = false;
  usable = false;
  passed = false;
  content = Empty;
  homes = record { call = false; dead = false; pools = record { req = false; own = replicate 8 false } };
}

abbrev pub seen_pool_states : List PoolState → ℕ → PoolState
seen_pool_states vs q = slice_index_or vs q only_null

abbrev pub seen_brigades : List BrigadeState → ℕ → BrigadeKnown
seen_brigades vs b = seen_brigade (slice_index_or vs b unmade)

abbrev pub seen_cursors : List CursorState → ℕ → CursorKnown
seen_cursors vs c = seen_cursor (slice_index_or vs c cursor.Unset)

abbrev pub seen_facts : List (List Bool) → ℕ → ℕ → Bool
seen_facts rows c d = slice_index_or (slice_index_or rows c []) d false

unfoldable pub seen : code.State → State
seen s = record {
  pool_count = s.pool_count;
  brigade_count = s.brigade_count;
  sent = s.sent;
  pools = seen_pool_states s.pools;
  brigades = seen_brigades s.brigades;
  cursors = seen_cursors s.cursors;
  facts = seen_facts s.facts;
}

-- How cursors move, as functions of the state and their numbers.
abbrev pub motion_of : Motion → State → ℕ → CursorKnown
motion_of (motion.Emptied b) s k = emptied b (s.cursors k)
motion_of (motion.Left b) s k = left b (s.cursors k)
motion_of (motion.Carried a b) s k = carried a b (s.cursors k)
motion_of (motion.SplitOff b c a) s k = split_off b c a s k
motion_of (motion.Forgotten c) s k = forgotten s c k

-- the cursors whose buckets are known to be others than that of a cursor that is set
abbrev pub others_of : Others → State → ℕ → Bool
others_of others.Nobody s k = false
others_of others.All s k = true
others_of (others.Only c) s k = k == c
others_of (others.As c) s k = known s c k

-- what stays known
abbrev pub keep_of : Keep → State → ℕ → ℕ → Bool
keep_of keep.Known s i j = known s i j
keep_of (keep.Shared t) s i j = known s i j && known (seen t.now) i j
keep_of (keep.But c o) s i j = known_but s c (others_of o s) i j

-- The answers of the rules.
abbrev pub seen_some : Option code.State → Option State
seen_some None = None
seen_some (Some s) = Some (seen s)

abbrev pub seen_edges : Successors → Edges
seen_edges e = record { next = seen_some e.next; jump = seen_some e.jump }

abbrev pub seen_answer : Result Successors FaultKind → Result Edges FaultKind
seen_answer (Ok e) = Ok (seen_edges e)
seen_answer (Err k) = Err k
