-- Small states as values, what the instructions on cursors and buckets make of them, and which faults they have there.
use Rattle.std.specs.Prelude.{◌≡◌, ℕ, ◌==◌, if◌then◌else◌, List, [], ◌∷◌, ◌++◌, Option, Some, None}
use Rattle.module_code.specs.declared.instr.KindTest.TheVariants as test
use Rattle.module_code.specs.declared.instr.PoolRef.TheVariants as pool
use Rattle.module_code.specs.declared.instr.Value.TheVariants as value
use Rattle.module_code.specs.declared.instr.Status.TheVariants.{Success, Fail}
use Rattle.module_code.specs.declared.instr.Instr.{Instr}
use Rattle.module_code.specs.declared.instr.Instr.TheVariants as instr
use Rattle.module_code.specs.Program.{Program}
use Rattle.run_model.specs.declared.bucket.Kind.TheVariants as kind
use Rattle.run_model.specs.declared.bucket.Content.TheVariants as content
use Rattle.run_model.specs.declared.bucket.Home.TheVariants as home
use Rattle.run_model.specs.declared.bucket.NamedBucket.{NamedBucket}
use Rattle.run_model.specs.declared.bucket.Mark.{Mark}
use Rattle.run_model.specs.declared.bucket.Mark.TheVariants.{Usable, Passed}
use Rattle.run_model.specs.declared.bucket.BrigadeVar.TheVariants as var
use Rattle.run_model.specs.declared.bucket.Cursor.{Cursor}
use Rattle.run_model.specs.declared.bucket.Cursor.TheVariants.{Unset, At, End}
use Rattle.run_model.specs.declared.event.Exit.TheVariants.{GoOn, Jump}
use Rattle.run_model.specs.declared.event.Piece.TheVariants as piece
use Rattle.run_model.specs.declared.event.Event.TheVariants as event
use Rattle.run_model.specs.declared.event.Stepped.TheVariants as stepped
use Rattle.run_model.specs.declared.fault.FaultKind.{FaultKind}
use Rattle.run_model.specs.declared.fault.FaultKind.TheVariants.{F1, F2, F3, F4, F5, F7, F9}
use Rattle.model_laws.specs.BrigadeLaws.{heap, eos, range, pooled}
use Rattle.run_model.specs.State.{Configuration, items_of}
use Rattle.run_model.specs.Cursors.{read_cursor}
use Rattle.run_model.specs.Faults.{fault}
use Rattle.run_model.specs.Worlds.{Done, Connected, Step, Output}
use Rattle.run_model.specs.Steps.{Outcome, step}
use Rattle.model_laws.specs.Examples.{at_open, answers, saving, saving_well, three_steps, went, step_ok}

-- a module with the text `a`
abbrev pub one_text : Program
one_text = record { pools = []; brigades = []; texts = (97 ∷ []) ∷ []; code = []; init = 0; main = 0 }

-- The call 1 of a connection with the pool 2, whose brigade 0 has this mark and these buckets, and whose brigade 1 has those;
-- brigade 2 is null. The buffer is `b`, and the next name is 100. These buckets are loose, and the cursors stand so.
abbrev pub state : Mark → List NamedBucket → List NamedBucket → List NamedBucket → (ℕ → Cursor) → Configuration
state mark first second loose cursors =
    record at_open {
      instance = record at_open.instance {
        brigades = λ k. if k == 0 then var.Live (record { name = 80; on = Some 2; mark = mark; items = first })
            else if k == 1 then var.Live (record { name = 81; on = Some 2; mark = Usable; items = second }) else var.Null;
      };
      call = record { name = 1; cursors = cursors; buffer = 98 ∷ []; loose = loose };
      shared = record at_open.shared { next = 100 };
    }

-- cursor 0 stands so, and so does cursor 1; the others are unset
abbrev pub two_cursors : Cursor → Cursor → ℕ → Cursor
two_cursors c d k = if k == 0 then c else if k == 1 then d else Unset

-- the read cursor stands so
abbrev pub reading : Cursor → ℕ → Cursor
reading c k = if k == read_cursor then c else Unset

-- brigade 0 has these buckets, and cursor 0 stands so
abbrev pub holds : List NamedBucket → Cursor → Configuration
holds items c = state Usable items [] [] (two_cursors c Unset)

-- this bucket is loose, and cursor 0 is at it; brigade 0 has the buckets 1 and 2, and cursor 1 is at the second
abbrev pub loose_beside : NamedBucket → Configuration
loose_beside x = state Usable (eos 1 ∷ eos 2 ∷ []) [] (x ∷ []) (two_cursors (At x.name) (At 2))

-- what an instruction makes of a state, where reads are given these bytes
abbrev pub given : Option (List ℕ) → Instr → Configuration → Outcome
given bytes i r = step one_text (record { answer = Success; given = bytes }) i r

abbrev pub after : Instr → Configuration → Configuration
after i r = (given None i r).state

-- the buckets of a brigade
abbrev pub in_brigade : ℕ → Configuration → List NamedBucket
in_brigade b r = items_of (r.instance.brigades b)

-- Cursors.
pub record CursorRows : Type 0 where
  pub first : (after (instr.First 0 0) (holds (eos 1 ∷ eos 2 ∷ []) Unset)).call.cursors 0 ≡ At 1
  pub first_of_none : (after (instr.First 0 0) (holds [] Unset)).call.cursors 0 ≡ End 80
  pub next : (after (instr.Next 1 0) (holds (eos 1 ∷ eos 2 ∷ []) (At 1))).call.cursors 1 ≡ At 2
  pub next_of_last : (after (instr.Next 0 0) (holds (eos 1 ∷ eos 2 ∷ []) (At 2))).call.cursors 0 ≡ End 80
  pub at_end : (given None (instr.JEnd 0 7) (holds (eos 1 ∷ []) (End 80))).exit ≡ Jump
  pub at_bucket : (given None (instr.JEnd 0 7) (holds (eos 1 ∷ []) (At 1))).exit ≡ GoOn
  pub at_loose : (given None (instr.JEnd 0 7) (loose_beside (eos 9))).exit ≡ GoOn
  pub is_data : (given None (instr.JKind 0 test.Data 7) (holds (pooled 1 (97 ∷ []) ∷ []) (At 1))).exit ≡ Jump
  pub is_pool : (given None (instr.JKind 0 test.Pool 7) (holds (pooled 1 (97 ∷ []) ∷ []) (At 1))).exit ≡ Jump
  pub is_no_heap : (given None (instr.JKind 0 test.Heap 7) (holds (pooled 1 (97 ∷ []) ∷ []) (At 1))).exit ≡ GoOn
  pub is_no_data : (given None (instr.JKind 0 test.Data 7) (holds (eos 1 ∷ []) (At 1))).exit ≡ GoOn

-- Buckets are moved and destroyed.
pub record MovingRows : Type 0 where
  pub unlinked : in_brigade 0 (after (instr.Unlink 0) (holds (eos 1 ∷ eos 2 ∷ []) (At 1))) ≡ eos 2 ∷ []
  pub unlinked_loose : (after (instr.Unlink 0) (holds (eos 1 ∷ eos 2 ∷ []) (At 1))).call.loose ≡ eos 1 ∷ []
  pub deleted : in_brigade 0 (after (instr.BDelete 0) (holds (eos 1 ∷ eos 2 ∷ []) (At 2))) ≡ eos 1 ∷ []
  pub deleted_loose : (after (instr.BDelete 0) (loose_beside (eos 9))).call.loose ≡ []
  pub tail : in_brigade 0 (after (instr.Tail 0 0) (loose_beside (eos 9))) ≡ eos 1 ∷ eos 2 ∷ eos 9 ∷ []
  pub tail_loose : (after (instr.Tail 0 0) (loose_beside (eos 9))).call.loose ≡ []
  pub head : in_brigade 0 (after (instr.Head 0 0) (loose_beside (eos 9))) ≡ eos 9 ∷ eos 1 ∷ eos 2 ∷ []
  pub before : in_brigade 0 (after (instr.Before 0 1) (loose_beside (eos 9))) ≡ eos 1 ∷ eos 9 ∷ eos 2 ∷ []

-- a bucket of these bytes that lasts as long as the call 1, and one that is immortal
abbrev pub transient : ℕ → List ℕ → NamedBucket
transient n bytes = record { name = n; bucket = record { kind = kind.Transient; content = content.Bytes bytes; home = home.Call 1 } }

abbrev pub immortal : ℕ → List ℕ → NamedBucket
immortal n bytes = record { name = n; bucket = record { kind = kind.Immortal; content = content.Bytes bytes; home = home.Free } }

abbrev pub flush : ℕ → NamedBucket
flush n = record { name = n; bucket = record { kind = kind.Flush; content = content.Nothing; home = home.Free } }

-- Buckets are made: each is the last loose one, under the next name, and its cursor is at it.
pub record MakerRows : Type 0 where
  pub made_heap : (after (instr.Heap 3 0) (loose_beside (eos 9))).call.loose ≡ eos 9 ∷ heap 100 (97 ∷ []) ∷ []
  pub cursor : (after (instr.Heap 3 0) (loose_beside (eos 9))).call.cursors 3 ≡ At 100
  pub name : (after (instr.Heap 3 0) (loose_beside (eos 9))).shared.next ≡ 101
  pub made_immortal : (after (instr.Immortal 3 0) (holds [] Unset)).call.loose ≡ immortal 100 (97 ∷ []) ∷ []
  pub made_frombuf : (after (instr.FromBuf 3) (holds [] Unset)).call.loose ≡ heap 100 (98 ∷ []) ∷ []
  pub made_transient : (after (instr.Transient 3) (holds [] Unset)).call.loose ≡ transient 100 (98 ∷ []) ∷ []
  pub made_poolb : (after (instr.PoolB 3 pool.Conn) (holds [] Unset)).call.loose ≡ pooled 100 (98 ∷ []) ∷ []
  pub made_flush : (after (instr.Flush 3) (holds [] Unset)).call.loose ≡ flush 100 ∷ []
  pub made_eos : (after (instr.Eos 3) (holds [] Unset)).call.loose ≡ eos 100 ∷ []
  -- a copy has a name of its own; what was copied stays
  pub copied : (after (instr.Copy 3 0) (holds (pooled 1 (97 ∷ []) ∷ []) (At 1))).call.loose ≡ pooled 100 (97 ∷ []) ∷ []
  pub copied_stays : in_brigade 0 (after (instr.Copy 3 0) (holds (pooled 1 (97 ∷ []) ∷ []) (At 1))) ≡ pooled 1 (97 ∷ []) ∷ []

-- a range whose home is another pool
abbrev pub range_in : ℕ → ℕ → ℕ → ℕ → NamedBucket
range_in p n start len = record { name = n; bucket = record { kind = kind.File; content = content.Range 1 start len; home = home.Pool p } }

-- Buckets are cut, set aside and read, and asked.
pub record CutRows : Type 0 where
  pub split : in_brigade 0 (after (instr.Split 0 (value.Constant 1) 7) (holds (heap 1 (97 ∷ 98 ∷ []) ∷ eos 2 ∷ []) (At 1))) ≡ heap 1 (97 ∷ []) ∷ heap 100 (98 ∷ []) ∷ eos 2 ∷ []
  pub split_goes : (given None (instr.Split 0 (value.Constant 1) 7) (holds (heap 1 (97 ∷ 98 ∷ []) ∷ eos 2 ∷ []) (At 1))).exit ≡ GoOn
  pub too_long : given None (instr.Split 0 (value.Constant 3) 7) (holds (heap 1 (97 ∷ 98 ∷ []) ∷ []) (At 1)) ≡ record { exit = Jump; state = holds (heap 1 (97 ∷ 98 ∷ []) ∷ []) (At 1) }
  pub metadata : given None (instr.Split 0 (value.Constant 0) 7) (holds (eos 1 ∷ []) (At 1)) ≡ record { exit = Jump; state = holds (eos 1 ∷ []) (At 1) }
  -- what does not outlast the pool is set aside
  pub aside : in_brigade 0 (after (instr.Aside 0 pool.Conn) (holds (transient 1 (97 ∷ []) ∷ transient 2 (98 ∷ []) ∷ []) (At 2))) ≡ transient 1 (97 ∷ []) ∷ heap 2 (98 ∷ []) ∷ []
  pub aside_file : in_brigade 0 (after (instr.Aside 0 pool.Conn) (holds (range_in 7 1 0 4 ∷ []) (At 1))) ≡ range_in 2 1 0 4 ∷ []
  pub aside_loose : (after (instr.Aside 0 pool.Conn) (loose_beside (transient 9 (97 ∷ [])))).call.loose ≡ heap 9 (97 ∷ []) ∷ []
  -- a file is read, and what is longer than 8000 bytes leaves a rest
  pub read : in_brigade 0 (given (Some (97 ∷ 98 ∷ [])) (instr.Read 0 7) (holds (range 1 5 2 ∷ eos 2 ∷ []) (At 1))).state ≡ heap 1 (97 ∷ 98 ∷ []) ∷ eos 2 ∷ []
  pub read_rest : in_brigade 0 (given (Some (97 ∷ [])) (instr.Read 0 7) (holds (range 1 5 8001 ∷ eos 2 ∷ []) (At 1))).state ≡ heap 1 (97 ∷ []) ∷ range 100 8005 1 ∷ eos 2 ∷ []
  pub read_cursor : (given (Some (97 ∷ [])) (instr.Read 0 7) (holds (range 1 5 8001 ∷ eos 2 ∷ []) (At 1))).state.call.cursors 8 ≡ At 1
  pub read_memory : given None (instr.Read 0 7) (holds (heap 1 (97 ∷ []) ∷ []) (At 1)) ≡ record { exit = GoOn; state = after (instr.Read 0 7) (holds (heap 1 (97 ∷ []) ∷ []) (At 1)) }
  pub fails : (given None (instr.Read 0 7) (holds (range 1 5 2 ∷ []) (At 1))).exit ≡ Jump
  pub fails_unread : in_brigade 0 (after (instr.Read 0 7) (holds (range 1 5 2 ∷ []) (At 1))) ≡ range 1 5 2 ∷ []
  pub fails_unset : (after (instr.Read 0 7) (state Usable (range 1 5 2 ∷ []) [] [] (λ k. At 1))).call.cursors 8 ≡ Unset
  pub length : (after (instr.Len 2 0) (holds (range 1 5 7 ∷ []) (At 1))).instance.numbers 2 ≡ 7
  pub longest : (after (instr.Len 2 0) (holds (range 1 0 4294967297 ∷ []) (At 1))).instance.numbers 2 ≡ 4294967295
  pub byte : (after (instr.Get 2 (value.Constant 1) 7) (state Usable (heap 1 (97 ∷ 98 ∷ []) ∷ []) [] [] (reading (At 1)))).instance.numbers 2 ≡ 98
  pub byte_goes : (given None (instr.Get 2 (value.Constant 1) 7) (state Usable (heap 1 (97 ∷ 98 ∷ []) ∷ []) [] [] (reading (At 1)))).exit ≡ GoOn
  pub no_byte : (given None (instr.Get 2 (value.Constant 2) 7) (state Usable (heap 1 (97 ∷ 98 ∷ []) ∷ []) [] [] (reading (At 1)))).exit ≡ Jump

-- Brigades are cut.
pub record BrigadeCutRows : Type 0 where
  pub stays : in_brigade 0 (after (instr.BSplit 0 0 1) (state Usable (eos 1 ∷ eos 2 ∷ []) (eos 3 ∷ []) [] (two_cursors (At 2) Unset))) ≡ eos 1 ∷ []
  pub moves : in_brigade 1 (after (instr.BSplit 0 0 1) (state Usable (eos 1 ∷ eos 2 ∷ []) (eos 3 ∷ []) [] (two_cursors (At 2) Unset))) ≡ eos 2 ∷ []
  pub all_stay : in_brigade 0 (after (instr.BSplit 0 0 1) (state Usable (eos 1 ∷ []) (eos 3 ∷ []) [] (two_cursors (End 80) Unset))) ≡ eos 1 ∷ []
  pub none_moves : in_brigade 1 (after (instr.BSplit 0 0 1) (state Usable (eos 1 ∷ []) (eos 3 ∷ []) [] (two_cursors (End 80) Unset))) ≡ []
  pub inside : in_brigade 0 (after (instr.BPart 0 (value.Constant 1) 3 7) (holds (heap 1 (97 ∷ 98 ∷ []) ∷ eos 2 ∷ []) Unset)) ≡ heap 1 (97 ∷ []) ∷ heap 100 (98 ∷ []) ∷ eos 2 ∷ []
  pub place : (after (instr.BPart 0 (value.Constant 1) 3 7) (holds (heap 1 (97 ∷ 98 ∷ []) ∷ eos 2 ∷ []) Unset)).call.cursors 3 ≡ At 100
  pub between : (after (instr.BPart 0 (value.Constant 2) 3 7) (holds (heap 1 (97 ∷ 98 ∷ []) ∷ eos 2 ∷ []) Unset)).call.cursors 3 ≡ At 2
  pub between_name : (after (instr.BPart 0 (value.Constant 2) 3 7) (holds (heap 1 (97 ∷ 98 ∷ []) ∷ eos 2 ∷ []) Unset)).shared.next ≡ 100
  pub whole : (given None (instr.BPart 0 (value.Constant 2) 3 7) (holds (heap 1 (97 ∷ 98 ∷ []) ∷ []) Unset)).exit ≡ GoOn
  pub whole_place : (after (instr.BPart 0 (value.Constant 2) 3 7) (holds (heap 1 (97 ∷ 98 ∷ []) ∷ []) Unset)).call.cursors 3 ≡ End 80
  pub short : (given None (instr.BPart 0 (value.Constant 3) 3 7) (holds (heap 1 (97 ∷ 98 ∷ []) ∷ eos 2 ∷ []) Unset)).exit ≡ Jump
  pub short_place : (after (instr.BPart 0 (value.Constant 3) 3 7) (holds (heap 1 (97 ∷ 98 ∷ []) ∷ eos 2 ∷ []) Unset)).call.cursors 3 ≡ End 80
  pub short_items : in_brigade 0 (after (instr.BPart 0 (value.Constant 3) 3 7) (holds (heap 1 (97 ∷ 98 ∷ []) ∷ eos 2 ∷ []) Unset)) ≡ heap 1 (97 ∷ 98 ∷ []) ∷ eos 2 ∷ []

-- the fault of an instruction
abbrev pub faults : Instr → Configuration → Option FaultKind
faults i r = fault one_text r i

-- brigade 0 was passed, and cursor 0 stands so
abbrev pub was_passed : List NamedBucket → Cursor → Configuration
was_passed items c = state Passed items [] [] (two_cursors c Unset)

-- Faults of cursors: unset or at what is gone (F3), at a passed brigade (F7), at an end (F4), at the wrong place (F9), in this
-- order.
pub record CursorFaults : Type 0 where
  pub unset : faults (instr.Next 1 0) (holds (eos 1 ∷ []) Unset) ≡ Some F3
  pub destroyed : faults (instr.JEnd 0 7) (holds (eos 1 ∷ []) (At 7)) ≡ Some F3
  pub dead : faults (instr.JEnd 0 7) (holds (eos 1 ∷ []) (End 99)) ≡ Some F3
  pub end : faults (instr.Next 1 0) (holds (eos 1 ∷ []) (End 80)) ≡ Some F4
  pub end_kind : faults (instr.JKind 0 test.Eos 7) (holds (eos 1 ∷ []) (End 80)) ≡ Some F4
  pub end_asked : faults (instr.JEnd 0 7) (holds (eos 1 ∷ []) (End 80)) ≡ None
  pub end_for_loose : faults (instr.Tail 0 0) (holds (eos 1 ∷ []) (End 80)) ≡ Some F4
  pub passed : faults (instr.JEnd 0 7) (was_passed (eos 1 ∷ []) (At 1)) ≡ Some F7
  pub passed_end : faults (instr.Next 1 0) (was_passed [] (End 80)) ≡ Some F7
  pub passed_unlinked : faults (instr.Unlink 0) (was_passed (eos 1 ∷ []) (At 1)) ≡ Some F7
  pub passed_for_loose : faults (instr.Tail 1 0) (was_passed (eos 1 ∷ []) (At 1)) ≡ Some F7
  pub loose_next : faults (instr.Next 1 0) (loose_beside (eos 9)) ≡ Some F9
  pub loose_unlinked : faults (instr.Unlink 0) (loose_beside (eos 9)) ≡ Some F9
  pub loose_split : faults (instr.Split 0 (value.Constant 0) 7) (loose_beside (heap 9 [])) ≡ Some F9
  pub loose_read : faults (instr.Read 0 7) (loose_beside (heap 9 [])) ≡ Some F9
  pub loose_deleted : faults (instr.BDelete 0) (loose_beside (eos 9)) ≡ None
  pub in_for_loose : faults (instr.Tail 0 0) (holds (eos 1 ∷ []) (At 1)) ≡ Some F9
  pub in_for_head : faults (instr.Head 0 0) (holds (eos 1 ∷ []) (At 1)) ≡ Some F9
  pub other : faults (instr.BSplit 0 0 1) (state Usable (eos 1 ∷ []) (eos 2 ∷ []) [] (two_cursors (At 2) Unset)) ≡ Some F9
  pub other_end : faults (instr.BSplit 0 0 1) (state Usable (eos 1 ∷ []) (eos 2 ∷ []) [] (two_cursors (End 81) Unset)) ≡ Some F9
  pub loose_place : faults (instr.BSplit 0 0 1) (loose_beside (eos 9)) ≡ Some F9
  pub own_end : faults (instr.BSplit 0 0 1) (state Usable (eos 1 ∷ []) (eos 2 ∷ []) [] (two_cursors (End 80) Unset)) ≡ None
  -- `get` uses the read cursor
  pub not_read : faults (instr.Get 2 (value.Constant 0) 7) (holds (heap 1 (97 ∷ []) ∷ []) (At 1)) ≡ Some F3
  pub was_read : faults (instr.Get 2 (value.Constant 0) 7) (state Usable (heap 1 (97 ∷ []) ∷ []) [] [] (reading (At 1))) ≡ None

-- a bucket whose home is dead
abbrev pub dead_file : ℕ → NamedBucket
dead_file n = record { name = n; bucket = record { kind = kind.File; content = content.Range 1 0 4; home = home.Ended } }

-- Which of two faults is told: that of the operand further left, and of homes (F5) last.
pub record FirstFaults : Type 0 where
  pub brigade_first : faults (instr.Tail 2 0) (holds [] Unset) ≡ Some F2
  pub passed_first : faults (instr.Head 0 0) (was_passed [] Unset) ≡ Some F7
  pub cursor_second : faults (instr.BSplit 0 0 2) (holds [] Unset) ≡ Some F3
  pub brigade_third : faults (instr.BSplit 0 0 2) (holds [] (End 80)) ≡ Some F2
  pub loose_first : faults (instr.Before 0 1) (holds (eos 1 ∷ []) (At 1)) ≡ Some F9
  pub place_second : faults (instr.Before 0 1) (state Usable [] [] (eos 9 ∷ []) (two_cursors (At 9) (End 80))) ≡ Some F4
  pub cursor_first : faults (instr.Aside 0 pool.Req) (holds [] Unset) ≡ Some F3
  pub pool_second : faults (instr.Aside 0 pool.Req) (holds (dead_file 1 ∷ []) (At 1)) ≡ Some F1
  pub home_third : faults (instr.Aside 0 pool.Conn) (holds (dead_file 1 ∷ []) (At 1)) ≡ Some F5
  pub pool_of_buffer : faults (instr.PoolB 0 pool.Req) (holds [] Unset) ≡ Some F1
  pub split_dead : faults (instr.Split 0 (value.Constant 9) 7) (holds (dead_file 1 ∷ []) (At 1)) ≡ Some F5
  pub copied_dead : faults (instr.Copy 1 0) (holds (dead_file 1 ∷ []) (At 1)) ≡ Some F5
  pub read_dead : faults (instr.Read 0 7) (holds (dead_file 1 ∷ []) (At 1)) ≡ Some F5
  pub parted_dead : faults (instr.BPart 0 (value.Constant 2) 1 7) (holds (dead_file 1 ∷ []) Unset) ≡ Some F5
  pub dead_apart : faults (instr.BPart 0 (value.Constant 4) 1 7) (holds (dead_file 1 ∷ []) Unset) ≡ None
  pub dead_moves : faults (instr.Unlink 0) (holds (dead_file 1 ∷ []) (At 1)) ≡ None
  pub dead_length : faults (instr.Len 2 0) (holds (dead_file 1 ∷ []) (At 1)) ≡ None

-- `brigade b0 conn`; open: `bcreate b0`, `ret ok`; init: `ret ok`; main: `:a` `first c0 in`, `jend c0 send`, `unlink c0`,
-- `tail b0 c0`, `jump a`, `:send` `pass b0 bad`, `bclean b0`, `ret ok`, `:bad` `bclean b0`, `ret fail`
abbrev pub moves_on : Program
moves_on = record {
  pools = [];
  brigades = pool.Conn ∷ [];
  texts = [];
  code = instr.BCreate 0 ∷ instr.Ret Success ∷ instr.Ret Success
      ∷ instr.First 0 8 ∷ instr.JEnd 0 8 ∷ instr.Unlink 0 ∷ instr.Tail 0 0 ∷ instr.Jump 3 ∷ instr.Pass 0 11 ∷ instr.BClean 0 ∷ instr.Ret Success ∷ instr.BClean 0 ∷ instr.Ret Fail ∷ [];
  init = 2;
  main = 3;
}

-- open: `heap c0 "a"`, `ret ok`; init: `:a` `jend c0 a`, `ret ok`; main: `ret ok`
abbrev pub keeps_loose : Program
keeps_loose = record { pools = []; brigades = []; texts = (97 ∷ []) ∷ []; code = instr.Heap 0 0 ∷ instr.Ret Success ∷ instr.JEnd 0 2 ∷ instr.Ret Success ∷ instr.Ret Success ∷ []; init = 2; main = 4 }

-- Runs.
pub record CursorRuns : Type 0 where
  pub moved : answers 1000000 moves_on (saving ++ event.Bring (piece.Heap (97 ∷ []) ∷ piece.Eos ∷ []) ∷ three_steps ++ three_steps ++ three_steps
      ++ three_steps ++ three_steps ++ event.TakeOutput ∷ [])
      ≡ saving_well ++ Done ∷ went ∷ went ∷ went ∷ went ∷ went ∷ went ∷ went ∷ went ∷ went ∷ went ∷ went ∷ went ∷ went ∷ went ∷ step_ok ∷ Output (97 ∷ []) ∷ []
  -- what is loose at a return goes, and so do the cursors
  pub forgotten : answers 1000000 keeps_loose (event.Open ∷ event.Step ∷ event.Step ∷ event.Begin ∷ event.Step ∷ []) ≡ Connected 1 ∷ went ∷ step_ok ∷ Done ∷ Step (stepped.Fault F3 0 2) ∷ []
