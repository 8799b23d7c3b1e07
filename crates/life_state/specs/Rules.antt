-- The rules: what each instruction needs of a state, what its effect makes of it, and the states that it leads to.
use Rattle.std.specs.Prelude.{ℕ, Bool, true, false, ◌&&◌, ◌||◌, not, ◌==◌, nat_lt, if◌then◌else◌, List, [], ◌∷◌, Option, Some, None, Result, Ok, Err}
use Rattle.module_code.specs.declared.instr.Instr.{Instr}
use Rattle.module_code.specs.declared.instr.KindTest.{KindTest}
use Rattle.module_code.specs.declared.instr.KindTest.TheVariants as test
use Rattle.module_code.specs.declared.instr.PoolRef.{PoolRef}
use Rattle.module_code.specs.declared.instr.PoolRef.TheVariants as pool
use Rattle.module_code.specs.declared.instr.VarRef.{VarRef}
use Rattle.module_code.specs.declared.instr.VarRef.TheVariants as variable
use Rattle.module_code.specs.Program.{Program, pool_of_brigade}
use Rattle.run_model.specs.declared.fault.FaultKind.{FaultKind}
use Rattle.run_model.specs.declared.fault.FaultKind.TheVariants.{F1, F2, F3, F5, F6, F7, F8, F10}
use Rattle.run_model.specs.declared.effect.ClearKind.{ClearKind}
use Rattle.run_model.specs.declared.effect.ClearKind.TheVariants.{Clear, Destroy}
use Rattle.run_model.specs.declared.effect.Effect.{Effect}
use Rattle.run_model.specs.declared.effect.Effect.TheVariants as effect
use Rattle.run_model.specs.declared.effect.MadeFrom.{MadeFrom}
use Rattle.run_model.specs.declared.effect.MadeFrom.TheVariants.{HeapText, ImmortalText, HeapBuffer, TransientBuffer, PoolBuffer, FlushBucket, EosBucket, CopyAt}
use Rattle.run_model.specs.declared.effect.Side.{Side}
use Rattle.run_model.specs.declared.effect.Side.TheVariants.{AtTail, AtHead}
use Rattle.run_model.specs.declared.effect.Condition.{Condition}
use Rattle.run_model.specs.declared.effect.Condition.TheVariants as condition
use Rattle.run_model.specs.declared.effect.Branch.{Branch}
use Rattle.run_model.specs.declared.effect.Branch.TheVariants.{ToNext, JumpIf, JumpAlways, EndCall}
use Rattle.run_model.specs.EffectOf.{effect_of, branch_of}
use Rattle.run_model.specs.Indexed.{upd, any_below}
use Rattle.run_model.specs.Faults.{Need, Want, WPool, WBrigade, WUsable, WNew, WNewPool, WCursor, WHomes, WHome, WHomeAcross, WSend, WReturn, wants, loose_fault, within_fault, end_fault, or_else}
use Rattle.life_state.specs.declared.parts.Contents.{Contents}
use Rattle.life_state.specs.declared.parts.Contents.TheVariants.{Empty, Flushes, NoEos, NoLateData, Any}
use Rattle.life_state.specs.declared.parts.Classes.{Classes}
use Rattle.life_state.specs.declared.parts.PoolState.{PoolState}
use Rattle.life_state.specs.States.{Homes, no_homes, only_call, home_in, homes_join, dead_where, only_null, only_live, is_live_alone, ended_pool, BrigadeKnown, never_made, holds, passed_on}
use Rattle.life_state.specs.States.{is_live_brigade, is_usable_alone, ended_brigade, with_homes, CursorKnown, Unset, Loose, In, End, InOrEnd, State, set_pool, set_brigade}
use Rattle.life_state.specs.Order.{content_leq, content_join}
use Rattle.life_state.specs.Facts.{is_end, known, moved, set_cursor, move_bucket}
use Rattle.life_state.specs.PoolOrder.{is_same_place, is_under}

-- What each want needs of a state.

-- a cursor's place must be known and fit
abbrev pub cursor_need : Need → CursorKnown → Option FaultKind
cursor_need f Unset = Some F3
cursor_need f (Loose s h) = loose_fault f
cursor_need f (In b s) = within_fault f b
cursor_need f (End b) = end_fault f b
cursor_need f (InOrEnd b s) = or_else (end_fault f b) (within_fault f b)

abbrev pub pool_need : State → PoolRef → Option FaultKind
pool_need s pool.Conn = None
pool_need s pool.Req = None
pool_need s (pool.Own q) = if is_live_alone (s.pools q) then None else Some F1

abbrev pub brigade_need : BrigadeKnown → Option FaultKind
brigade_need v = if is_live_brigade v then None else Some F2

abbrev pub usable_need : BrigadeKnown → Option FaultKind
usable_need v = if is_live_brigade v then (if is_usable_alone v then None else Some F7) else Some F2

abbrev pub homes_need : Homes → Option FaultKind
homes_need h = if h.dead then Some F5 else None

-- the homes of the bucket at a cursor
abbrev pub homes_at : State → CursorKnown → Homes
homes_at s Unset = no_homes
homes_at s (Loose t h) = h
homes_at s (In b t) = (s.brigades b).homes
homes_at s (End b) = no_homes
homes_at s (InOrEnd b t) = (s.brigades b).homes

-- where an EOS may have been passed, no data may be
abbrev pub send_limit : Bool → Contents
send_limit true = Flushes
send_limit false = NoLateData

abbrev pub send_need : Bool → BrigadeKnown → Option FaultKind
send_need sent v = if content_leq v.content (send_limit sent) then None else Some F8

-- a brigade that may be live and usable, with a bucket that may live through this call alone
abbrev pub keeps_call : BrigadeKnown → Bool
keeps_call v = v.live && v.usable && v.homes.call

abbrev pub need : State → Want → Option FaultKind
need s (WPool p) = pool_need s p
need s (WBrigade b) = brigade_need (s.brigades b)
need s (WUsable b) = usable_need (s.brigades b)
need s (WNew b) = if (s.brigades b).live then Some F10 else None
need s (WNewPool q) = if (s.pools q).live then Some F10 else None
need s (WCursor c f) = cursor_need f (s.cursors c)
need s (WHomes b) = homes_need (s.brigades b).homes
need s (WHome c) = homes_need (homes_at s (s.cursors c))
need s (WHomeAcross b x) = homes_need (s.brigades b).homes
need s (WSend b) = send_need s.sent (s.brigades b)
need s WReturn = if any_below 8 (λ b. keeps_call (s.brigades b)) then Some F6 else None

abbrev pub first_need : State → List Want → Option FaultKind
first_need s [] = None
first_need s (w ∷ ws) = or_else (need s w) (first_need s ws)

-- Contents of brigades that buckets come to.

-- one brigade behind another
abbrev pub concat_content : Contents → Contents → Contents
concat_content Empty b = b
concat_content Flushes b = content_join Flushes b
concat_content NoEos b = content_join NoEos b
concat_content NoLateData b = if content_leq b Flushes then NoLateData else Any
concat_content Any b = Any

-- the least contents in which buckets of these classes may stand
abbrev pub content_of : Classes → Contents
content_of s = if s.eos then NoLateData else (if s.bytes then NoEos else Flushes)

-- a bucket at the tail, at the head, before another
abbrev pub tail_content : Contents → Classes → Contents
tail_content NoLateData s = if s.bytes then Any else NoLateData
tail_content Any s = Any
tail_content b s = content_join b (content_of s)

abbrev pub head_content : Contents → Classes → Contents
head_content Any s = Any
head_content b s = if s.eos then (if content_leq b Flushes then NoLateData else Any) else content_join b (content_of s)

abbrev pub before_data : Contents → Contents
before_data b = if content_leq b NoEos then NoEos else Any

abbrev pub before_eos : Contents → Contents
before_eos b = if content_leq b Flushes then NoLateData else Any

abbrev pub before_content : Contents → Classes → Contents
before_content b s = if s.eos then before_eos b else (if s.bytes then before_data b else content_join b Flushes)

-- Where cursors are after buckets moved.

-- the buckets of b are destroyed or taken away; its end stays
abbrev pub emptied : ℕ → CursorKnown → CursorKnown
emptied b (In a s) = if a == b then Unset else In a s
emptied b (InOrEnd a s) = if a == b then Unset else InOrEnd a s
emptied b Unset = Unset
emptied b (Loose s h) = Loose s h
emptied b (End a) = End a

-- b is used no more
abbrev pub left : ℕ → CursorKnown → CursorKnown
left b (In a s) = if a == b then Unset else In a s
left b (InOrEnd a s) = if a == b then Unset else InOrEnd a s
left b (End a) = if a == b then Unset else End a
left b Unset = Unset
left b (Loose s h) = Loose s h

-- the buckets of b moved to a
abbrev pub carried : ℕ → ℕ → CursorKnown → CursorKnown
carried a b (In v s) = if v == b then In a s else In v s
carried a b (InOrEnd v s) = if v == b then Unset else InOrEnd v s
carried a b Unset = Unset
carried a b (Loose s h) = Loose s h
carried a b (End v) = End v

-- the buckets of b from c on moved to a, in place of what was there
abbrev pub split_off : ℕ → ℕ → ℕ → State → ℕ → CursorKnown
split_off b c a s k = if k == c then carried a b (s.cursors k) else emptied a (emptied b (s.cursors k))

-- Pools that go: top and those under it, of which `under` tells.

-- the pools that a clear of top destroys
abbrev pub is_subpool : (PoolRef → Bool) → PoolRef → ℕ → Bool
is_subpool under top q = under (pool.Own q) && not (is_same_place top (pool.Own q))

-- the brigades that go with it
abbrev pub lies_under : Program → (PoolRef → Bool) → ℕ → Bool
lies_under p under b = under (pool_of_brigade p b)

abbrev pub cleared_pool : (PoolRef → Bool) → PoolRef → State → ℕ → PoolState
cleared_pool under top s q = if is_subpool under top q then ended_pool (s.pools q) else s.pools q

abbrev pub cleared_brigade : Program → (PoolRef → Bool) → State → ℕ → BrigadeKnown
cleared_brigade p under s b = if lies_under p under b then ended_brigade (s.brigades b) else with_homes (dead_where under) (s.brigades b)

abbrev pub left_under : Program → (PoolRef → Bool) → ℕ → CursorKnown → CursorKnown
left_under p under b c = if lies_under p under b then Unset else c

abbrev pub cleared_cursor : Program → (PoolRef → Bool) → CursorKnown → CursorKnown
cleared_cursor p under Unset = Unset
cleared_cursor p under (Loose s h) = Loose s (dead_where under h)
cleared_cursor p under (In b s) = left_under p under b (In b s)
cleared_cursor p under (End b) = left_under p under b (End b)
cleared_cursor p under (InOrEnd b s) = left_under p under b (InOrEnd b s)

abbrev pub cleared_cursors : Program → (PoolRef → Bool) → State → ℕ → CursorKnown
cleared_cursors p under s k = cleared_cursor p under (s.cursors k)

abbrev pub with_cleared : Program → (PoolRef → Bool) → PoolRef → State → State
with_cleared p under top s = record s { pools = cleared_pool under top s; brigades = cleared_brigade p under s }

unfoldable pub cleared_under : Program → (PoolRef → Bool) → PoolRef → State → State
cleared_under p under top s = moved (cleared_cursors p under s) (with_cleared p under top s)

-- top is cleared: pools under it and brigades on it and on them are gone, and homes there are dead (apr_pool_clear)
abbrev pub cleared : Program → PoolRef → State → State
cleared p top s = cleared_under p (is_under p top) top s

-- What each effect makes of a state, and the edges of an instruction.

-- the states at the next instruction and at the one that is named, where these can be reached
pub record Edges : Type 0 where
  pub next : Option State
  pub jump : Option State

abbrev pub goes_on_with : State → Edges
goes_on_with s = record { next = Some s; jump = None }

abbrev pub both_with : State → Edges
both_with s = record { next = Some s; jump = Some s }

abbrev pub some_if : Bool → State → Option State
some_if true s = Some s
some_if false s = None

-- no cursor, and every cursor
abbrev pub no_other : ℕ → Bool
no_other k = false

abbrev pub all_others : ℕ → Bool
all_others k = true

-- apr_pool_create, apr_pool_clear, apr_pool_destroy
abbrev pub after_pcreate : ℕ → State → State
after_pcreate q s = set_pool q only_live s

abbrev pub after_pclear : Program → ℕ → State → State
after_pclear p q s = cleared p (pool.Own q) s

abbrev pub after_pdestroy : Program → ℕ → State → State
after_pdestroy p q s = set_pool q (ended_pool (s.pools q)) (after_pclear p q s)

abbrev pub after_emptied : Program → ClearKind → ℕ → State → State
after_emptied p Clear q s = after_pclear p q s
after_emptied p Destroy q s = after_pdestroy p q s

-- apr_brigade_create, apr_brigade_cleanup
abbrev pub after_bcreate : ℕ → State → State
after_bcreate b s = set_brigade b (holds Empty no_homes) s

abbrev pub after_bclean : ℕ → State → State
after_bclean b s = moved (λ k. emptied b (s.cursors k)) (set_brigade b (holds Empty no_homes) s)

-- the buckets of b go to the tail of a, whose homes become these (APR_BRIGADE_CONCAT, ap_save_brigade)
abbrev pub after_concat : ℕ → ℕ → Homes → State → State
after_concat a b homes s =
    moved (λ k. carried a b (s.cursors k))
    (set_brigade b (holds Empty no_homes) (set_brigade a (holds (concat_content (s.brigades a).content (s.brigades b).content) homes) s))

abbrev pub after_bconcat : ℕ → ℕ → State → State
after_bconcat a b s = after_concat a b (homes_join (s.brigades a).homes (s.brigades b).homes) s

abbrev pub after_bsave : Program → ℕ → ℕ → State → State
after_bsave p o b s = after_concat o b (homes_join (s.brigades o).homes (home_in (pool_of_brigade p o))) s

-- what comes to the new brigade of a split at c (apr_brigade_split_ex)
abbrev pub split_part : CursorKnown → BrigadeKnown → BrigadeKnown
split_part c v = if is_end c then holds Empty no_homes else holds v.content v.homes

abbrev pub after_bsplit : ℕ → ℕ → ℕ → State → State
after_bsplit b c a s = moved (split_off b c a s) (set_brigade a (split_part (s.cursors c) (s.brigades b)) s)

-- a bucket of a brigade with these contents, or its end (APR_BRIGADE_FIRST, APR_BUCKET_NEXT)
abbrev pub bucket_or_end : ℕ → Contents → CursorKnown
bucket_or_end b Empty = End b
bucket_or_end b Flushes = InOrEnd b (record { bytes = false; flush = true; eos = false })
bucket_or_end b NoEos = InOrEnd b (record { bytes = true; flush = true; eos = false })
bucket_or_end b NoLateData = InOrEnd b (record { bytes = true; flush = true; eos = true })
bucket_or_end b Any = InOrEnd b (record { bytes = true; flush = true; eos = true })

abbrev pub after_first : ℕ → ℕ → State → State
after_first c b s = set_cursor c (bucket_or_end b (s.brigades b).content) no_other s

abbrev pub after_next : ℕ → ℕ → CursorKnown → State → State
after_next d c (In b t) s = set_cursor d (bucket_or_end b (s.brigades b).content) (λ k. k == c) s
after_next d c _ s = s

-- APR_BRIGADE_EMPTY
abbrev pub is_empty : Contents → Bool
is_empty Empty = true
is_empty _ = false

abbrev pub edges_jempty : ℕ → State → Edges
edges_jempty b s = record { next = some_if (not (is_empty (s.brigades b).content)) s; jump = Some (set_brigade b (holds Empty no_homes) s) }

-- what is known of a cursor changes, and not where it is
abbrev pub told : ℕ → CursorKnown → State → State
told c v s = moved (upd s.cursors c v) s

-- APR_BRIGADE_SENTINEL
abbrev pub edges_jend : ℕ → CursorKnown → State → Edges
edges_jend c (End b) s = record { next = None; jump = Some s }
edges_jend c (InOrEnd b t) s = record { next = Some (told c (In b t) s); jump = Some (told c (End b) s) }
edges_jend c Unset s = goes_on_with s
edges_jend c (Loose t h) s = goes_on_with s
edges_jend c (In b t) s = goes_on_with s

-- the classes of the buckets of a kind, among these, and those of the others
abbrev pub of_kind : KindTest → Classes → Classes
of_kind test.Flush s = record { bytes = false; flush = s.flush; eos = false }
of_kind test.Eos s = record { bytes = false; flush = false; eos = s.eos }
of_kind test.Data s = record { bytes = s.bytes; flush = false; eos = false }
of_kind test.Heap s = record { bytes = s.bytes; flush = false; eos = false }
of_kind test.Transient s = record { bytes = s.bytes; flush = false; eos = false }
of_kind test.Immortal s = record { bytes = s.bytes; flush = false; eos = false }
of_kind test.Pool s = record { bytes = s.bytes; flush = false; eos = false }
of_kind test.File s = record { bytes = s.bytes; flush = false; eos = false }

abbrev pub not_of_kind : KindTest → Classes → Classes
not_of_kind test.Flush s = record s { flush = false }
not_of_kind test.Eos s = record s { eos = false }
not_of_kind test.Data s = record s { bytes = false }
not_of_kind test.Heap s = s
not_of_kind test.Transient s = s
not_of_kind test.Immortal s = s
not_of_kind test.Pool s = s
not_of_kind test.File s = s

abbrev pub some_class : Classes → Bool
some_class s = s.bytes || s.flush || s.eos

-- the same at a bucket of these classes
abbrev pub with_classes : Classes → CursorKnown → CursorKnown
with_classes t (Loose s h) = Loose t h
with_classes t (In b s) = In b t
with_classes t (InOrEnd b s) = InOrEnd b t
with_classes t Unset = Unset
with_classes t (End b) = End b

abbrev pub classes_of : CursorKnown → Classes
classes_of (Loose s h) = s
classes_of (In b s) = s
classes_of (InOrEnd b s) = s
classes_of Unset = record { bytes = false; flush = false; eos = false }
classes_of (End b) = record { bytes = false; flush = false; eos = false }

-- c with these classes, if there are some
abbrev pub told_classes : ℕ → Classes → State → Option State
told_classes c t s = some_if (some_class t) (told c (with_classes t (s.cursors c)) s)

-- APR_BUCKET_IS_EOS and its like
abbrev pub edges_jkind : ℕ → KindTest → State → Edges
edges_jkind c k s = record { next = told_classes c (not_of_kind k (classes_of (s.cursors c))) s; jump = told_classes c (of_kind k (classes_of (s.cursors c))) s }

-- APR_BUCKET_REMOVE, apr_bucket_delete
abbrev pub after_unlink : ℕ → State → State
after_unlink c s = move_bucket c (Loose (classes_of (s.cursors c)) (homes_at s (s.cursors c))) s

abbrev pub after_bdelete : ℕ → State → State
after_bdelete c s = move_bucket c Unset s

-- the loose bucket at c comes into b (APR_BRIGADE_INSERT_TAIL, APR_BRIGADE_INSERT_HEAD, APR_BUCKET_INSERT_BEFORE)
abbrev pub put_in : (Contents → Classes → Contents) → ℕ → ℕ → State → State
put_in content b c s =
    move_bucket c (In b (classes_of (s.cursors c)))
    (set_brigade b (holds (content (s.brigades b).content (classes_of (s.cursors c))) (homes_join (s.brigades b).homes (homes_at s (s.cursors c)))) s)

-- at the tail, at the head
abbrev pub side_content : Side → Contents → Classes → Contents
side_content AtTail = tail_content
side_content AtHead = head_content

-- there are nine brigades
abbrev pub if_brigade : ℕ → State → State → State
if_brigade b changed s = if nat_lt b 9 then changed else s

abbrev pub after_before : ℕ → CursorKnown → State → State
after_before c (In b t) s = if_brigade b (put_in before_content b c s) s
after_before c _ s = s

-- new buckets
abbrev pub only_bytes : Classes
only_bytes = record { bytes = true; flush = false; eos = false }

abbrev pub only_flush : Classes
only_flush = record { bytes = false; flush = true; eos = false }

abbrev pub only_eos : Classes
only_eos = record { bytes = false; flush = false; eos = true }

abbrev pub made : ℕ → Classes → Homes → State → State
made c classes homes s = set_cursor c (Loose classes homes) all_others s

-- What a new bucket is, by what it is made from. A copy (apr_bucket_copy) has the kind and the home of the bucket at its cursor.
abbrev pub classes_from : MadeFrom → State → Classes
classes_from (HeapText t) s = only_bytes
classes_from (ImmortalText t) s = only_bytes
classes_from HeapBuffer s = only_bytes
classes_from TransientBuffer s = only_bytes
classes_from (PoolBuffer q) s = only_bytes
classes_from FlushBucket s = only_flush
classes_from EosBucket s = only_eos
classes_from (CopyAt c) s = classes_of (s.cursors c)

abbrev pub homes_from : MadeFrom → State → Homes
homes_from (HeapText t) s = no_homes
homes_from (ImmortalText t) s = no_homes
homes_from HeapBuffer s = no_homes
homes_from TransientBuffer s = only_call
homes_from (PoolBuffer q) s = no_homes
homes_from FlushBucket s = no_homes
homes_from EosBucket s = no_homes
homes_from (CopyAt c) s = homes_at s (s.cursors c)

abbrev pub after_make : ℕ → MadeFrom → State → State
after_make c from s = made c (classes_from from s) (homes_from from s) s

-- apr_bucket_setaside
abbrev pub after_aside : ℕ → PoolRef → CursorKnown → State → State
after_aside c p (Loose t h) s = move_bucket c (Loose t (home_in p)) s
after_aside c p (In b t) s = if_brigade b (set_brigade b (with_homes (homes_join (home_in p)) (s.brigades b)) s) s
after_aside c p _ s = s

-- apr_bucket_read: `rd` is c's bucket
abbrev pub after_read : ℕ → State → State
after_read c s = set_cursor 8 (s.cursors c) (known s c) s

-- ap_pass_brigade
abbrev pub may_end : Contents → Bool
may_end Empty = false
may_end Flushes = false
may_end NoEos = false
may_end NoLateData = true
may_end Any = true

abbrev pub after_pass : ℕ → State → State
after_pass b s = moved (λ k. left b (s.cursors k)) (record (set_brigade b passed_on s) { sent = s.sent || may_end (s.brigades b).content })

-- a variable that is null, or that is not
abbrev pub pool_not_null : PoolState → PoolState
pool_not_null v = record v { null = false }

abbrev pub brigade_not_null : BrigadeKnown → BrigadeKnown
brigade_not_null v = record v { null = false }

abbrev pub edges_jnull : VarRef → State → Edges
edges_jnull (variable.Pool q) s = record {
  next = some_if ((s.pools q).gone || (s.pools q).live) (set_pool q (pool_not_null (s.pools q)) s);
  jump = some_if (s.pools q).null (set_pool q only_null s);
}
edges_jnull (variable.Brigade b) s = record {
  next = some_if ((s.brigades b).gone || (s.brigades b).live) (set_brigade b (brigade_not_null (s.brigades b)) s);
  jump = some_if (s.brigades b).null (set_brigade b never_made s);
}

abbrev pub edges_jsent : State → Edges
edges_jsent s = record { next = Some (record s { sent = false }); jump = some_if s.sent s }

-- what an effect makes of a state
abbrev pub after : Program → Effect → State → State
after p effect.Nothing s = s
after p (effect.MakePool q) s = after_pcreate q s
after p (effect.EmptyPool kind q) s = after_emptied p kind q s
after p (effect.Register how q t) s = s
after p (effect.Kill q t) s = s
after p (effect.MakeBrigade o) s = after_bcreate o s
after p (effect.Clean b) s = after_bclean b s
after p (effect.Concat a b) s = after_bconcat a b s
after p (effect.SplitBrigade b c a) s = after_bsplit b c a s
after p (effect.PartBrigade b x c) s = after_first c b s
after p (effect.Save o b) s = after_bsave p o b s
after p (effect.Pass b) s = after_pass b s
after p (effect.First c b) s = after_first c b s
after p (effect.Next d c) s = after_next d c (s.cursors c) s
after p (effect.Unlink c) s = after_unlink c s
after p (effect.Delete c) s = after_bdelete c s
after p (effect.Insert side b c) s = put_in (side_content side) b c s
after p (effect.Before c d) s = after_before c (s.cursors d) s
after p (effect.Make c from) s = after_make c from s
after p (effect.Split c x) s = s
after p (effect.Aside c q) s = after_aside c q (s.cursors c) s
after p (effect.Read c) s = after_read c s
after p (effect.Number n number) s = s
after p (effect.Put x) s = s
after p effect.ClearBuffer s = s
after p effect.Leave s = s
after p effect.Return s = s

-- The two edges, by what decides between them: s is the state before the instruction, t the one that its effect makes of it. Where a
-- brigade is too short, its cursor is at the end, and where a read fails, `rd` is unset. What no state speaks of leaves t on both.
abbrev pub on_condition : Condition → State → State → Edges
on_condition (condition.TooShort b x c) s t = record { next = Some t; jump = Some (set_cursor c (End b) no_other s) }
on_condition (condition.NoBucket b) s t = edges_jempty b t
on_condition condition.PassFailed s t = both_with t
on_condition (condition.AtEnd c) s t = edges_jend c (t.cursors c) t
on_condition (condition.OfKind c k) s t = edges_jkind c k t
on_condition (condition.NoSplit c x) s t = both_with t
on_condition (condition.ReadFailed c) s t = record { next = Some t; jump = Some (set_cursor 8 Unset no_other s) }
on_condition (condition.NoByte x) s t = both_with t
on_condition (condition.NoRoom x) s t = both_with t
on_condition (condition.Less n x) s t = both_with t
on_condition (condition.Equal n x) s t = both_with t
on_condition (condition.IsNull v) s t = edges_jnull v t
on_condition condition.WasSent s t = edges_jsent t

-- the edges, by where an instruction may lead
abbrev pub led : Branch → State → State → Edges
led ToNext s t = goes_on_with t
led (JumpIf when) s t = on_condition when s t
led JumpAlways s t = record { next = None; jump = Some t }
led EndCall s t = record { next = None; jump = None }

-- the edges of an instruction whose needs are met
abbrev pub edges : Program → Instr → State → Edges
edges p i s = led (branch_of i) s (after p (effect_of i) s)

abbrev pub need_or : Option FaultKind → Edges → Result Edges FaultKind
need_or None e = Ok e
need_or (Some k) e = Err k

-- the first need that fails, or the states on the edges
abbrev pub rule : Program → Instr → State → Result Edges FaultKind
rule p i s = need_or (first_need s (wants p i)) (edges p i s)

-- Between handlers.

-- `open` begins: all variables are null
abbrev pub at_open : ℕ → ℕ → State
at_open pool_count brigade_count = record {
  pool_count = pool_count;
  brigade_count = brigade_count;
  sent = false;
  pools = λ q. only_null;
  brigades = λ b. never_made;
  cursors = λ c. Unset;
  facts = λ c d. false;
}

abbrev pub without_cursors : State → State
without_cursors s = record s { cursors = λ c. Unset; facts = λ c d. false }

-- what a call leaves: no cursor, and no `in`
abbrev pub at_return : State → State
at_return s = without_cursors (set_brigade 8 never_made s)

-- `main` begins: `in` is usable, with no data behind an EOS, and its buckets live through the call
abbrev pub at_main : State → State
at_main s = set_brigade 8 (holds NoLateData only_call) s

-- the request ends: its pool is destroyed, and no EOS of the next was passed
unfoldable pub at_end_of_request : Program → State → State
at_end_of_request p s = record (cleared p pool.Req s) { sent = false }
