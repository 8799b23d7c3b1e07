-- Small modules as values, and what whole runs of a chain of one of them answer, worked out by hand.
use Rattle.std.specs.Prelude.{◌≡◌, ℕ, zero, suc, ◌-◌, ◌^◌, true, false, ◌+◌, List, [], ◌∷◌, ◌++◌, length, map, replicate, Bool, Some, None, ◌==◌, if◌then◌else◌}
use Rattle.std.specs.Str.{bytes_eq}
use Rattle.module_code.specs.declared.instr.PoolRef.{PoolRef}
use Rattle.module_code.specs.declared.instr.PoolRef.TheVariants as pool
use Rattle.module_code.specs.declared.instr.Value.TheVariants as value
use Rattle.module_code.specs.declared.instr.VarRef.TheVariants as varref
use Rattle.module_code.specs.declared.instr.Status.TheVariants.{Success, Fail}
use Rattle.module_code.specs.declared.instr.Instr.{Instr}
use Rattle.module_code.specs.declared.instr.Instr.TheVariants as instr
use Rattle.module_code.specs.Program.{Program}
use Rattle.run_model.specs.declared.bucket.Kind.{Kind}
use Rattle.run_model.specs.declared.bucket.Kind.TheVariants as kind
use Rattle.run_model.specs.declared.bucket.Content.TheVariants as content
use Rattle.run_model.specs.declared.bucket.Home.{Home}
use Rattle.run_model.specs.declared.bucket.Home.TheVariants as home
use Rattle.run_model.specs.declared.bucket.NamedBucket.{NamedBucket}
use Rattle.run_model.specs.declared.bucket.Mark.{Mark}
use Rattle.run_model.specs.declared.bucket.Mark.TheVariants.{Usable, Passed}
use Rattle.run_model.specs.declared.bucket.PoolVar.TheVariants as poolvar
use Rattle.run_model.specs.declared.bucket.BrigadeVar.TheVariants as var
use Rattle.run_model.specs.declared.event.Piece.TheVariants as piece
use Rattle.run_model.specs.declared.event.Event.{Event}
use Rattle.run_model.specs.declared.event.Event.TheVariants as event
use Rattle.run_model.specs.declared.event.Stepped.TheVariants as stepped
use Rattle.run_model.specs.declared.event.Cause.{Cause}
use Rattle.run_model.specs.declared.event.Cause.TheVariants as cause
use Rattle.run_model.specs.declared.event.Refusal.TheVariants as refusal
use Rattle.run_model.specs.declared.fault.FaultKind.TheVariants as fault_kind
use Rattle.run_model.specs.declared.payload.Payload.{Payload}
use Rattle.run_model.specs.declared.payload.Payload.TheVariants as payload
use Rattle.run_model.specs.Pools.{planted, created}
use Rattle.run_model.specs.State.{Configuration, items_of, fresh_call}
use Rattle.run_model.specs.Faults.{fault}
use Rattle.run_model.specs.Steps.{do_return}
use Rattle.run_model.specs.Chains.{Frame, Linked, configuration}
use Rattle.run_model.specs.Passing.{Reads}
use Rattle.run_model.specs.Turns.{Opening, Found, Missing, opened, fresh_connection, request_over}
use Rattle.run_model.specs.Worlds.{World, Told, Answer, Done, Refused, Connected, Step, Output, Opened, Labels, new_world, happens, tree_of}

-- What the device tells: what an opening finds under a name, and what the reads of an event give.
pub record ExampleDevice : Type 0 where
  pub named : List ℕ → Opening
  pub reads : Reads

-- there is no file, and reads fail
abbrev pub bare : ExampleDevice
bare = record { named = λ name. Missing; reads = λ k. None }

-- one file, of the name `f`, with this content, and these reads
abbrev pub one_file : List ℕ → Reads → ExampleDevice
one_file bytes reads = record { named = λ name. if bytes_eq name (102 ∷ []) then Found 0 bytes else Missing; reads = reads }

abbrev pub found_by : ExampleDevice → Event → Opening
found_by d (event.OpenFile name) = d.named name
found_by d e = Missing

abbrev pub told_by : ExampleDevice → Event → Told
told_by d e = record { reads = d.reads; opening = found_by d e }

-- what these events lead to, each of the connection of this number, where memory is ample
unfoldable pub left_by : ExampleDevice → ℕ → List Program → World → List (ℕ × Event) → World
left_by d budget chain w [] = w
left_by d budget chain w (e ∷ es) = left_by d budget chain (happens true budget chain (told_by d e.1) e.0 e.1 w).1 es

-- and their answers
unfoldable pub answers_from : ExampleDevice → ℕ → List Program → World → List (ℕ × Event) → List Answer
answers_from d budget chain w [] = []
answers_from d budget chain w (e ∷ es) =
    let after = happens true budget chain (told_by d e.1) e.0 e.1 w in
    after.0 ∷ answers_from d budget chain after.1 es

-- events of the first connection
abbrev pub of_first : List Event → List (ℕ × Event)
of_first es = map (λ e. (1, e)) es

-- the answers of a chain of this module alone, from a new world on, whose first name is 1
abbrev pub answers : ℕ → Program → List Event → List Answer
answers budget p es = answers_from bare budget (p ∷ []) (new_world 1) (of_first es)

abbrev pub answers_with : ExampleDevice → Program → List Event → List Answer
answers_with d p es = answers_from d 1000000 (p ∷ []) (new_world 1) (of_first es)

-- what it leads to
abbrev pub world_after : Program → List Event → World
world_after p es = left_by bare 1000000 (p ∷ []) (new_world 1) (of_first es)

-- one event of the first connection; memory: whether a growth succeeds
abbrev pub happening : Bool → Program → Event → World → Answer × World
happening memory p e w = happens memory 1000000 (p ∷ []) (told_by bare e) 1 e w

-- a module with no variables, whose `open` and `init` succeed at once
abbrev pub with_main : List Instr → Program
with_main main = record { pools = []; brigades = []; texts = []; code = instr.Ret Success ∷ instr.Ret Success ∷ main; init = 1; main = 2 }

-- `jsent drop`, `pass in bad`, `ret ok`, `:drop` `bclean in`, `ret ok`, `:bad` `ret fail`: passes on what comes, and
-- drops what comes after an EOS
abbrev pub identity : Program
identity = with_main (instr.JSent 5 ∷ instr.Pass 8 7 ∷ instr.Ret Success ∷ instr.BClean 8 ∷ instr.Ret Success ∷ instr.Ret Fail ∷ [])

-- `pass in bad`, `:bad` `jempty in out`, `:out` `ret ok`
abbrev pub asks_after_pass : Program
asks_after_pass = with_main (instr.Pass 8 3 ∷ instr.JEmpty 8 4 ∷ instr.Ret Success ∷ [])

-- `pass in bad`, `ret ok`, `:bad` `ret fail`
abbrev pub passes_on : Program
passes_on = with_main (instr.Pass 8 4 ∷ instr.Ret Success ∷ instr.Ret Fail ∷ [])

-- `brigade b0 req`; init: `bcreate b0`, `ret ok`; main: `bconcat b0 in`, `pass b0 bad`, `:bad` `bclean b0`, `ret ok`
abbrev pub gathers : Program
gathers = record {
  pools = [];
  brigades = pool.Req ∷ [];
  texts = [];
  code = instr.Ret Success ∷ instr.BCreate 0 ∷ instr.Ret Success ∷ instr.BConcat 0 8
      ∷ instr.Pass 0 5 ∷ instr.BClean 0 ∷ instr.Ret Success ∷ [];
  init = 1;
  main = 3;
}

-- `brigade b0 conn`; init: `bcreate b0`, `ret ok`; main: `ret ok`
abbrev pub creates_each_time : Program
creates_each_time = record { pools = []; brigades = pool.Conn ∷ []; texts = []; code = instr.Ret Success ∷ instr.BCreate 0 ∷ instr.Ret Success ∷ instr.Ret Success ∷ []; init = 1; main = 3 }

-- `pool p0 conn`, `brigade b0 p0`; init: `bcreate b0`, `ret ok`; main: `bclean b0`, `ret ok`
abbrev pub lacks_its_pool : Program
lacks_its_pool = record {
  pools = pool.Conn ∷ [];
  brigades = pool.Own 0 ∷ [];
  texts = [];
  code = instr.Ret Success ∷ instr.BCreate 0 ∷ instr.Ret Success
      ∷ instr.BClean 0 ∷ instr.Ret Success ∷ [];
  init = 1;
  main = 3;
}

-- `brigade b0 conn`; main: `bclean b0`, `ret ok`
abbrev pub never_creates : Program
never_creates = record (with_main (instr.BClean 0 ∷ instr.Ret Success ∷ [])) { brigades = pool.Conn ∷ [] }

-- main: `:a` `jump a`
abbrev pub loops : Program
loops = with_main (instr.Jump 2 ∷ [])

abbrev pub step_ok : Answer
step_ok = Step (stepped.CallEnded Success)

abbrev pub went : Answer
went = Step stepped.Went

abbrev pub broken_by : Cause → Answer
broken_by k = Refused (refusal.Broken k)

-- the connection is opened, its `open` of one instruction is run, and so is `init` of a request
abbrev pub beginning : List Event
beginning = event.Open ∷ event.Step ∷ event.Begin ∷ event.Step ∷ []

abbrev pub begun_well : List Answer
begun_well = Connected 1 ∷ step_ok ∷ Done ∷ step_ok ∷ []

-- a world with other next names, of pools and of all else
abbrev pub with_names : ℕ → ℕ → World → World
with_names pool_name name w = record w { common = record w.common { pools = pool_name; next = name } }

-- the answers of these events after `beginning`, with these next names
abbrev pub answers_with_names : ℕ → ℕ → Program → List Event → List Answer
answers_with_names pool_name name p es = answers_from bare 1000000 (p ∷ []) (with_names pool_name name (world_after p beginning)) (of_first es)

-- the connection was opened, and its `open` is to run
abbrev pub just_opened : Program → World
just_opened p = world_after p (event.Open ∷ [])

-- a module with these variables and texts whose `open` is this, and whose `init` and `main` succeed at once
abbrev pub with_open : List PoolRef → List PoolRef → List (List ℕ) → List Instr → Program
with_open pools brigades texts first = record {
  pools = pools;
  brigades = brigades;
  texts = texts;
  code = first ++ instr.Ret Success ∷ instr.Ret Success ∷ [];
  init = length first;
  main = length first + 1;
}

-- `pool p0 conn`, `pool p1 p0`; open: `pcreate p0`, `label p0 "1"`, `label p0 "2"`, `pcreate p1`, `label p1 "3"`,
-- `pclear p0`, `ret ok`
abbrev pub cleans_up : Program
cleans_up = with_open (pool.Conn ∷ pool.Own 0 ∷ []) [] ((49 ∷ []) ∷ (50 ∷ []) ∷ (51 ∷ []) ∷ [])
    (instr.PCreate 0 ∷ instr.Label (pool.Own 0) 0 ∷ instr.Label (pool.Own 0) 1 ∷ instr.PCreate 1 ∷ instr.Label (pool.Own 1) 2 ∷ instr.PClear 0 ∷ instr.Ret Success ∷ [])

-- `pool p0 conn`, `brigade b0 p0`, with this `open`
abbrev pub one_pool : List Instr → Program
one_pool first = with_open (pool.Conn ∷ []) (pool.Own 0 ∷ []) ((97 ∷ []) ∷ (98 ∷ []) ∷ []) (first ++ instr.Ret Success ∷ [])

-- `pool p0 conn`, `pool p1 p0`, `brigade b0 p1`, with this `open`
abbrev pub two_pools : List Instr → Program
two_pools first = with_open (pool.Conn ∷ pool.Own 0 ∷ []) (pool.Own 1 ∷ []) [] (first ++ instr.Ret Success ∷ [])

-- `pool p0 req`, `pool p1 p0`, `brigade b0 p1`, with this `init`, which begins at 1
abbrev pub request_pools : List Instr → Program
request_pools first =
    let init : List Instr = first ++ instr.Ret Success ∷ [] in
    record { pools = pool.Req ∷ pool.Own 0 ∷ []; brigades = pool.Own 1 ∷ []; texts = (97 ∷ []) ∷ []; code = instr.Ret Success ∷ (init ++ instr.Ret Success ∷ []); init = 1; main = length init + 1 }

-- what so many steps of `open` answer, and what is told then
abbrev pub opening : ℕ → List Event → List Event
opening n es = event.Open ∷ (replicate n event.Step ++ es)

-- `brigade b0 conn`; open: `bcreate b0`, `ret ok`; init: `ret ok`; main: `jempty in send`, this, `ret ok`, `:send` `pass b0 bad`,
-- `bclean b0`, `ret ok`, `:bad` `bclean b0`, `ret fail`
abbrev pub gathers_by : Instr → Program
gathers_by i = record {
  pools = [];
  brigades = pool.Conn ∷ [];
  texts = [];
  code = instr.BCreate 0 ∷ instr.Ret Success ∷ instr.Ret Success
      ∷ instr.JEmpty 8 6 ∷ i ∷ instr.Ret Success ∷ instr.Pass 0 9 ∷ instr.BClean 0 ∷ instr.Ret Success ∷ instr.BClean 0 ∷ instr.Ret Fail ∷ [];
  init = 2;
  main = 3;
}

-- with `bsave b0 in`, and with `bconcat b0 in`
abbrev pub saver : Program
saver = gathers_by (instr.BSave 0 8)

abbrev pub keeper : Program
keeper = gathers_by (instr.BConcat 0 8)

-- `brigade b0 conn`; open: `bcreate b0`, `ret ok`; init: `ret ok`; main: `bconcat b0 in`, `pass b0 bad`, `:bad` `ret ok`
abbrev pub never_cleans : Program
never_cleans = record {
  pools = [];
  brigades = pool.Conn ∷ [];
  texts = [];
  code = instr.BCreate 0 ∷ instr.Ret Success ∷ instr.Ret Success ∷ instr.BConcat 0 8
      ∷ instr.Pass 0 5 ∷ instr.Ret Success ∷ [];
  init = 2;
  main = 3;
}

abbrev pub saving : List Event
saving = event.Open ∷ event.Step ∷ event.Step ∷ event.Begin ∷ event.Step ∷ []

abbrev pub saving_well : List Answer
saving_well = Connected 1 ∷ went ∷ step_ok ∷ Done ∷ step_ok ∷ []

-- open: `set n0 256`, `put n0 a`, `:loop` `jump loop`, `:a` `sub n0 257`, `jeq n0 0 b`, `:loop2` `jump loop2`, `:b` `add n0 4294967295`,
-- `add n0 1`, `:loop3` `jlt n0 4294967295 loop3`, `ret ok`
abbrev pub counts : Program
counts = with_open [] [] [] (instr.Set 0 (value.Constant 256) ∷ instr.Put (value.Number 0) 3 ∷ instr.Jump 2 ∷ instr.Sub 0 (value.Constant 257) ∷ instr.JEq 0 (value.Constant 0) 6 ∷ instr.Jump 5
    ∷ instr.Add 0 (value.Constant 4294967295) ∷ instr.Add 0 (value.Constant 1) ∷ instr.JLt 0 (value.Constant 4294967295) 8 ∷ instr.Ret Success ∷ [])

-- each read fails; the first one alone does
abbrev pub unread : Reads
unread k = None

abbrev pub first_unread : Reads
first_unread zero = None
first_unread (suc k) = Some (120 ∷ [])

-- bodies of these bytes
abbrev pub a_heap : List ℕ → Event
a_heap bytes = event.Bring (piece.Heap bytes ∷ [])

abbrev pub a_last_heap : List ℕ → Event
a_last_heap bytes = event.Bring (piece.Heap bytes ∷ piece.Eos ∷ [])

abbrev pub three_steps : List Event
three_steps = event.Step ∷ event.Step ∷ event.Step ∷ []

-- How bodies are passed on and dropped.
pub record PassRuns : Type 0 where
  pub one_brigade : answers 1000000 identity (beginning ++ a_last_heap (97 ∷ 98 ∷ []) ∷ three_steps ++ event.TakeOutput ∷ event.TakeOutput ∷ [])
      ≡ begun_well ++ Done ∷ went ∷ went ∷ step_ok ∷ Output (97 ∷ 98 ∷ []) ∷ Output [] ∷ []
  pub no_pieces : answers 1000000 identity (beginning ++ event.Bring [] ∷ three_steps ++ event.TakeOutput ∷ [])
      ≡ begun_well ++ Done ∷ went ∷ went ∷ step_ok ∷ Output [] ∷ []
  -- what comes behind an EOS of the request reaches no output
  pub dropped : answers 1000000 identity (beginning ++ a_last_heap (97 ∷ []) ∷ three_steps ++ a_heap (98 ∷ []) ∷ three_steps ++ event.TakeOutput ∷ [])
      ≡ begun_well ++ Done ∷ went ∷ went ∷ step_ok ∷ Done ∷ went ∷ went ∷ step_ok ∷ Output (97 ∷ []) ∷ []
  -- the next request begins anew
  pub next_request : answers 1000000 identity (beginning ++ a_last_heap (97 ∷ []) ∷ three_steps ++ event.End ∷ event.Begin ∷ event.Step ∷ a_heap (98 ∷ []) ∷ three_steps ++ event.TakeOutput ∷ [])
      ≡ begun_well ++ Done ∷ went ∷ went ∷ step_ok ∷ Done ∷ Done ∷ step_ok ∷ Done ∷ went ∷ went ∷ step_ok ∷ Output (97 ∷ 98 ∷ []) ∷ []
  -- a brigade on the request's pool goes with it, and may be made again
  pub gathered : answers 1000000 gathers (event.Open
      ∷ (event.Step ∷ event.Begin ∷ event.Step ∷ event.Step ∷ a_heap (97 ∷ []) ∷ three_steps ++ event.Step ∷ event.End ∷ event.Begin ∷ event.Step
      ∷ event.Step ∷ event.TakeOutput ∷ []))
      ≡ Connected 1 ∷ step_ok ∷ Done ∷ went ∷ step_ok ∷ Done ∷ went ∷ went ∷ went ∷ step_ok ∷ Done ∷ Done ∷ went ∷ step_ok ∷ Output (97 ∷ []) ∷ []

-- what the first pool that the module made, of name 3, holds after so many steps of `open`
abbrev pub held_after : ℕ → Program → List Payload
held_after steps p = ((tree_of (world_after p (event.Open ∷ replicate steps event.Step))).payloads 3).plain

-- How pools are made, cleared and destroyed, and their labels run.
pub record PoolRuns : Type 0 where
  -- subpools first, last in first out
  pub order : answers 1000000 cleans_up (opening 7 (event.TellLabels ∷ event.Close ∷ event.TellLabels ∷ []))
      ≡ Connected 1 ∷ went ∷ went ∷ went ∷ went ∷ went ∷ went ∷ step_ok ∷ Labels ((51 ∷ []) ∷ (50 ∷ []) ∷ (49 ∷ []) ∷ [])
      ∷ Labels ((51 ∷ []) ∷ (50 ∷ []) ∷ (49 ∷ []) ∷ []) ∷ Refused refusal.NoSuchConn ∷ []
  -- of two equal labels the newer one is killed; what is left runs at the close
  pub killed : answers 1000000 (one_pool (instr.PCreate 0 ∷ instr.Label (pool.Own 0) 0 ∷ instr.Label pool.Conn 1 ∷ instr.Label (pool.Own 0) 1
      ∷ instr.Label (pool.Own 0) 0 ∷ instr.Unlabel (pool.Own 0) 0 ∷ []))
      (opening 7 (event.TellLabels ∷ event.Close ∷ [])) ≡ Connected 1 ∷ went ∷ went ∷ went ∷ went ∷ went ∷ went ∷ step_ok ∷ Labels [] ∷ Labels ((98 ∷ []) ∷ (97 ∷ []) ∷ (98 ∷ []) ∷ []) ∷ []
  -- a label that was not registered last is killed too
  pub killed_below : answers 1000000 (one_pool (instr.PCreate 0 ∷ instr.Label (pool.Own 0) 0 ∷ instr.Label (pool.Own 0) 1 ∷ instr.Unlabel (pool.Own 0) 0 ∷ instr.PClear 0 ∷ []))
      (opening 6 (event.TellLabels ∷ [])) ≡ Connected 1 ∷ went ∷ went ∷ went ∷ went ∷ went ∷ step_ok ∷ Labels ((98 ∷ []) ∷ []) ∷ []
  -- a brigade goes with its pool, and may be made again; a cleared pool is usable
  pub again : answers 1000000 (one_pool (instr.PCreate 0 ∷ instr.BCreate 0 ∷ instr.PClear 0 ∷ instr.BCreate 0 ∷ instr.BClean 0 ∷ [])) (opening 6 [])
      ≡ Connected 1 ∷ went ∷ went ∷ went ∷ went ∷ went ∷ step_ok ∷ []
  pub gone : answers 1000000 (one_pool (instr.PCreate 0 ∷ instr.BCreate 0 ∷ instr.PClear 0 ∷ instr.BClean 0 ∷ [])) (opening 4 [])
      ≡ Connected 1 ∷ went ∷ went ∷ went ∷ Step (stepped.Fault fault_kind.F2 0 3) ∷ []
  pub dead : answers 1000000 (one_pool (instr.PCreate 0 ∷ instr.PDestroy 0 ∷ instr.PCreate 0 ∷ instr.PDestroy 0 ∷ instr.PClear 0 ∷ [])) (opening 5 [])
      ≡ Connected 1 ∷ went ∷ went ∷ went ∷ went ∷ Step (stepped.Fault fault_kind.F1 0 4) ∷ []
  pub null : answers 1000000 (one_pool (instr.Label (pool.Own 0) 0 ∷ [])) (opening 1 []) ≡ Connected 1 ∷ Step (stepped.Fault fault_kind.F1 0 0) ∷ []
  pub over_live : answers 1000000 (one_pool (instr.PCreate 0 ∷ instr.PCreate 0 ∷ [])) (opening 2 (event.TellLabels ∷ event.Begin ∷ event.Close ∷ []))
      ≡ Connected 1 ∷ went ∷ Step (stepped.Fault fault_kind.F10 0 1) ∷ Labels [] ∷ broken_by cause.Faulted ∷ Labels [] ∷ []
  -- a dead variable is not null
  pub nulls : answers 1000000 (one_pool (instr.JNull (varref.Pool 0) 2 ∷ instr.PClear 0 ∷ instr.PCreate 0 ∷ instr.PDestroy 0 ∷ instr.JNull (varref.Pool 0) 1
      ∷ instr.JNull (varref.Brigade 0) 7 ∷ instr.PClear 0 ∷ []))
      (opening 6 []) ≡ Connected 1 ∷ went ∷ went ∷ went ∷ went ∷ went ∷ step_ok ∷ []
  pub pool_names : (happening true (one_pool (instr.PCreate 0 ∷ [])) event.Step (with_names (2 ^ 64 - 1) 4 (just_opened (one_pool (instr.PCreate 0 ∷ []))))).0 ≡ broken_by cause.NamesSpent
  pub last_pool_name : (happening true (one_pool (instr.PCreate 0 ∷ [])) event.Step (with_names (2 ^ 64 - 2) 4 (just_opened (one_pool (instr.PCreate 0 ∷ []))))).0 ≡ went
  pub no_memory : (happening false (one_pool (instr.PCreate 0 ∷ [])) event.Step (just_opened (one_pool (instr.PCreate 0 ∷ [])))).0 ≡ broken_by cause.NoMemory
  -- a brigade is registered with its pool, behind what stood there
  pub registered : held_after 3 (one_pool (instr.PCreate 0 ∷ instr.Label (pool.Own 0) 0 ∷ instr.BCreate 0 ∷ [])) ≡ payload.Label (97 ∷ []) ∷ payload.Brigade 2 ∷ []
  -- a clear hands it on, and what is made then has another name
  pub handed_on : held_after 4 (one_pool (instr.PCreate 0 ∷ instr.Label (pool.Own 0) 0 ∷ instr.BCreate 0 ∷ instr.PClear 0 ∷ [])) ≡ []
  pub made_again : held_after 4 (one_pool (instr.PCreate 0 ∷ instr.BCreate 0 ∷ instr.PClear 0 ∷ instr.BCreate 0 ∷ [])) ≡ payload.Brigade 3 ∷ []

-- How buckets of the kinds are kept, passed on and read.
pub record KindRuns : Type 0 where
  -- a transient bucket is saved before its call returns
  pub saved : answers 1000000 saver (saving ++ event.Bring (piece.Transient (97 ∷ []) ∷ []) ∷ three_steps ++ event.Bring [] ∷ three_steps ++ event.Step ∷ event.TakeOutput ∷ [])
      ≡ saving_well ++ Done ∷ went ∷ went ∷ step_ok ∷ Done ∷ went ∷ went ∷ went ∷ step_ok ∷ Output (97 ∷ []) ∷ []
  -- or kept beyond it
  pub kept : answers 1000000 keeper (saving ++ event.Bring (piece.Transient (97 ∷ []) ∷ []) ∷ three_steps)
      ≡ saving_well ++ Done ∷ went ∷ went ∷ Step (stepped.Fault fault_kind.F6 0 5) ∷ []
  -- a file that is saved outlasts its request
  pub file_saved : answers_with (one_file (120 ∷ 121 ∷ 122 ∷ []) (λ k. Some (121 ∷ 122 ∷ []))) saver (event.AddFile (102 ∷ []) (120 ∷ 121 ∷ 122 ∷ [])
      ∷ saving ++ event.OpenFile (102 ∷ []) ∷ event.Bring (piece.File 1 1 2 ∷ []) ∷ three_steps
      ++ event.End ∷ event.Begin ∷ event.Step ∷ event.Bring [] ∷ three_steps ++ event.Step ∷ event.TakeOutput ∷ [])
      ≡ Done ∷ saving_well ++ Opened 1 3 ∷ Done ∷ went ∷ went ∷ step_ok ∷ Done ∷ Done ∷ step_ok ∷ Done ∷ went ∷ went ∷ went ∷ step_ok ∷ Output (121 ∷ 122 ∷ []) ∷ []
  -- and one that is only kept does not
  pub file_kept : answers_with (one_file (120 ∷ []) unread) keeper (event.AddFile (102 ∷ []) (120 ∷ []) ∷ saving ++ event.OpenFile (102 ∷ []) ∷ event.Bring (piece.File 1 0 1 ∷ []) ∷ three_steps
      ++ event.End ∷ event.Begin ∷ event.Step ∷ event.Bring [] ∷ event.Step ∷ event.Step ∷ [])
      ≡ Done ∷ saving_well ++ Opened 1 1 ∷ Done ∷ went ∷ went ∷ step_ok ∷ Done ∷ Done ∷ step_ok ∷ Done ∷ went ∷ Step (stepped.Fault fault_kind.F5 0 6) ∷ []
  -- bytes in the request's pool are kept when it goes
  pub pool_bytes : answers 1000000 keeper (saving ++ event.Bring (piece.Pool (97 ∷ []) ∷ []) ∷ three_steps ++ event.End ∷ event.Begin ∷ event.Step
      ∷ event.Bring [] ∷ three_steps ++ event.Step ∷ event.TakeOutput ∷ [])
      ≡ saving_well ++ Done ∷ went ∷ went ∷ step_ok ∷ Done ∷ Done ∷ step_ok ∷ Done ∷ went ∷ went ∷ went ∷ step_ok ∷ Output (97 ∷ []) ∷ []
  pub metadata : answers 1000000 identity (beginning ++ event.Bring (piece.Flush ∷ piece.Immortal (97 ∷ []) ∷ piece.Eos ∷ piece.Flush ∷ []) ∷ three_steps ++ event.TakeOutput ∷ [])
      ≡ begun_well ++ Done ∷ went ∷ went ∷ step_ok ∷ Output (97 ∷ []) ∷ []
  -- the first of the reads fails: the pass answers Fail, and an EOS counts
  pub read_fails : answers_with (one_file (120 ∷ []) first_unread) identity
      (beginning ++ event.OpenFile (102 ∷ []) ∷ event.Bring (piece.Heap (97 ∷ []) ∷ piece.File 1 0 1 ∷ piece.Heap (98 ∷ []) ∷ piece.Eos ∷ []) ∷ three_steps
      ++ event.TakeOutput ∷ event.Bring [] ∷ three_steps)
      ≡ begun_well ++ Opened 1 1 ∷ Done ∷ went ∷ went ∷ Step (stepped.CallEnded Fail) ∷ Output (97 ∷ []) ∷ Done ∷ went ∷ went ∷ step_ok ∷ []
  pub no_file : answers_with (one_file (120 ∷ []) unread) identity (event.AddFile (102 ∷ []) (120 ∷ []) ∷ event.Open ∷ event.Step ∷ event.OpenFile (102 ∷ [])
      ∷ event.Begin ∷ event.OpenFile (102 ∷ []) ∷ event.Step ∷ event.OpenFile (103 ∷ [])
      ∷ event.OpenFile (102 ∷ []) ∷ event.Bring (piece.File 1 0 2 ∷ []) ∷ event.Bring (piece.File 2 0 0 ∷ []) ∷ event.Bring (piece.File 1 1 0 ∷ []) ∷ [])
      ≡ Done ∷ Connected 1 ∷ step_ok ∷ Refused refusal.NotInRequest ∷ Done ∷ Refused refusal.Busy ∷ step_ok ∷ Refused refusal.NoFile ∷ Opened 1 1
      ∷ Refused refusal.NoFile ∷ Refused refusal.NoFile ∷ Done ∷ []
  -- a file of the last request is not open in this one
  pub next_request : answers_with (one_file (120 ∷ []) unread) identity (event.AddFile (102 ∷ []) (120 ∷ []) ∷ beginning ++ event.OpenFile (102 ∷ [])
      ∷ event.End ∷ event.Begin ∷ event.Step ∷ event.Bring (piece.File 1 0 1 ∷ []) ∷ event.OpenFile (102 ∷ []) ∷ [])
      ≡ Done ∷ begun_well ++ Opened 1 1 ∷ Done ∷ Done ∷ step_ok ∷ Refused refusal.NoFile ∷ Opened 2 1 ∷ []
  -- numbers stop at 0 and at 4294967295, and only a byte is put into the buffer
  pub numbers : answers 1000000 counts (opening 8 []) ≡ Connected 1 ∷ went ∷ went ∷ went ∷ went ∷ went ∷ went ∷ went ∷ step_ok ∷ []

-- How pools end with those above them, with their request and with their connection.
pub record PoolEnds : Type 0 where
  pub subpool_brigade : answers 1000000 (two_pools (instr.PCreate 0 ∷ instr.PCreate 1 ∷ instr.BCreate 0 ∷ instr.PClear 0 ∷ instr.BClean 0 ∷ [])) (opening 5 [])
      ≡ Connected 1 ∷ went ∷ went ∷ went ∷ went ∷ Step (stepped.Fault fault_kind.F2 0 4) ∷ []
  pub subpool : answers 1000000 (two_pools (instr.PCreate 0 ∷ instr.PCreate 1 ∷ instr.PDestroy 0 ∷ instr.PClear 1 ∷ [])) (opening 4 [])
      ≡ Connected 1 ∷ went ∷ went ∷ went ∷ Step (stepped.Fault fault_kind.F1 0 3) ∷ []
  -- a pool above a cleared one is left as it is
  pub above : answers 1000000 (two_pools (instr.PCreate 0 ∷ instr.PCreate 1 ∷ instr.PDestroy 1 ∷ instr.PClear 0 ∷ [])) (opening 5 []) ≡ Connected 1 ∷ went ∷ went ∷ went ∷ went ∷ step_ok ∷ []
  -- no label of another pool is killed, and where there is none nothing happens
  pub other_pool : answers 1000000 (one_pool (instr.PCreate 0 ∷ instr.Label pool.Conn 0 ∷ instr.Unlabel (pool.Own 0) 0 ∷ instr.Unlabel pool.Conn 1 ∷ [])) (opening 5 (event.Close ∷ []))
      ≡ Connected 1 ∷ went ∷ went ∷ went ∷ went ∷ step_ok ∷ Labels ((97 ∷ []) ∷ []) ∷ []
  -- the labels of a request's pools run where it ends
  pub request_labels : answers 1000000 (request_pools (instr.Label pool.Req 0 ∷ [])) (event.Open ∷ event.Step ∷ event.Begin ∷ event.Step ∷ event.Step
      ∷ event.TellLabels ∷ event.End ∷ event.TellLabels ∷ event.Close ∷ [])
      ≡ Connected 1 ∷ step_ok ∷ Done ∷ went ∷ step_ok ∷ Labels [] ∷ Done ∷ Labels ((97 ∷ []) ∷ []) ∷ Labels ((97 ∷ []) ∷ []) ∷ []
  -- they and their brigades may be made again in the next request
  pub next_request : answers 1000000 (request_pools (instr.PCreate 0 ∷ instr.PCreate 1 ∷ instr.BCreate 0 ∷ []))
      (event.Open ∷ (event.Step ∷ event.Begin ∷ three_steps ++ event.Step ∷ event.End ∷ event.Begin ∷ three_steps ++ event.Step ∷ []))
      ≡ Connected 1 ∷ step_ok ∷ Done ∷ went ∷ went ∷ went ∷ step_ok ∷ Done ∷ Done ∷ went ∷ went ∷ went ∷ step_ok ∷ []
  -- until then they are dead, and not null
  pub after_request : answers 1000000 (request_pools (instr.JNull (varref.Pool 0) 3 ∷ instr.PClear 0 ∷ instr.PCreate 0 ∷ []))
      (event.Open ∷ (event.Step ∷ event.Begin ∷ three_steps ++ event.End ∷ event.Begin ∷ event.Step ∷ event.Step ∷ []))
      ≡ Connected 1 ∷ step_ok ∷ Done ∷ went ∷ went ∷ step_ok ∷ Done ∷ Done ∷ went ∷ Step (stepped.Fault fault_kind.F1 0 2) ∷ []
  pub while_busy : answers 1000000 identity (event.Open ∷ event.Close ∷ event.Step ∷ event.TakeOutput ∷ event.Close ∷ [])
      ≡ Connected 1 ∷ Labels [] ∷ Refused refusal.NoSuchConn ∷ Refused refusal.NoSuchConn ∷ Refused refusal.NoSuchConn ∷ []
  -- the root is left, alone
  pub root_left : (tree_of (world_after identity (event.Open ∷ event.Close ∷ []))).path 1 ≡ 1 ∷ []
  pub none_left : (tree_of (world_after identity (event.Open ∷ event.Close ∷ []))).path 2 ≡ []
  pub no_memory_to_end : (happening false identity event.End (world_after identity beginning)).0 ≡ Refused refusal.NoMemory
  pub no_memory_to_close : happening false identity event.Close (just_opened identity) ≡ (Refused refusal.NoMemory, just_opened identity)

-- How instructions have faults, which are told whether or not there is memory.
pub record FaultRuns : Type 0 where
  pub passed : answers 1000000 asks_after_pass (beginning ++ event.Bring [] ∷ three_steps ++ event.TakeOutput ∷ [])
      ≡ begun_well ++ Done ∷ went ∷ Step (stepped.Fault fault_kind.F7 0 3) ∷ Refused (refusal.Broken cause.Faulted) ∷ Output [] ∷ []
  -- a return leaves a passed brigade passed
  pub passed_before : answers 1000000 never_cleans (saving ++ a_heap (97 ∷ []) ∷ three_steps ++ a_heap (98 ∷ []) ∷ event.Step ∷ event.TakeOutput ∷ [])
      ≡ saving_well ++ Done ∷ went ∷ went ∷ step_ok ∷ Done ∷ Step (stepped.Fault fault_kind.F7 0 3) ∷ Output (97 ∷ []) ∷ []
  pub data_after_eos : answers 1000000 passes_on (beginning ++ a_last_heap (97 ∷ []) ∷ event.Step ∷ event.Step ∷ a_heap (98 ∷ []) ∷ event.Step ∷ event.TakeOutput ∷ [])
      ≡ begun_well ++ Done ∷ went ∷ step_ok ∷ Done ∷ Step (stepped.Fault fault_kind.F8 0 2) ∷ Output (97 ∷ []) ∷ []
  pub made_again : answers 1000000 creates_each_time (event.Open ∷ event.Step ∷ event.Begin ∷ event.Step ∷ event.Step ∷ event.End ∷ event.Begin ∷ event.Step ∷ [])
      ≡ Connected 1 ∷ step_ok ∷ Done ∷ went ∷ step_ok ∷ Done ∷ Done ∷ Step (stepped.Fault fault_kind.F10 0 1) ∷ []
  pub no_pool : answers 1000000 lacks_its_pool (event.Open ∷ event.Step ∷ event.Begin ∷ event.Step ∷ [])
      ≡ Connected 1 ∷ step_ok ∷ Done ∷ Step (stepped.Fault fault_kind.F1 0 1) ∷ []
  pub no_brigade : answers 1000000 never_creates (beginning ++ event.Bring [] ∷ event.Step ∷ [])
      ≡ begun_well ++ Done ∷ Step (stepped.Fault fault_kind.F2 0 2) ∷ []
  pub without_memory : (happening false never_creates event.Step (world_after never_creates (beginning ++ event.Bring [] ∷ []))).0 ≡ Step (stepped.Fault fault_kind.F2 0 2)

-- How connections break.
pub record BreakRuns : Type 0 where
  pub three_are_enough : answers 3 identity (beginning ++ event.Bring [] ∷ three_steps)
      ≡ begun_well ++ Done ∷ went ∷ went ∷ step_ok ∷ []
  pub two_are_not : answers 2 identity (beginning ++ a_last_heap (97 ∷ 98 ∷ []) ∷ three_steps ++ event.Step ∷ event.End ∷ event.Begin ∷ event.Bring [] ∷ event.TakeOutput ∷ [])
      ≡ begun_well ++ Done ∷ went ∷ went ∷ broken_by cause.OutOfSteps ∷ broken_by cause.OutOfSteps ∷ broken_by cause.OutOfSteps ∷ broken_by cause.OutOfSteps
      ∷ broken_by cause.OutOfSteps ∷ Output (97 ∷ 98 ∷ []) ∷ []
  pub none : answers 0 identity (event.Open ∷ event.Step ∷ []) ≡ Connected 1 ∷ broken_by cause.OutOfSteps ∷ []
  pub for_ever : answers 2 loops (beginning ++ event.Bring [] ∷ three_steps) ≡ begun_well ++ Done ∷ went ∷ went ∷ broken_by cause.OutOfSteps ∷ []
  -- a brigade wants memory, a return wants none
  pub no_memory : (happening false gathers event.Step (world_after gathers (event.Open ∷ event.Step ∷ event.Begin ∷ []))).0 ≡ broken_by cause.NoMemory
  pub no_growth : (happening false identity event.Step (just_opened identity)).0 ≡ step_ok

-- Which events are refused in which states.
pub record RefusedRuns : Type 0 where
  pub before_open : answers 1000000 identity (event.Begin ∷ event.Bring [] ∷ event.Step ∷ event.End ∷ event.TakeOutput ∷ [])
      ≡ Refused refusal.NoSuchConn ∷ Refused refusal.NoSuchConn ∷ Refused refusal.NoSuchConn ∷ Refused refusal.NoSuchConn ∷ Refused refusal.NoSuchConn ∷ []
  pub busy : answers 1000000 identity (event.Open ∷ event.Begin ∷ event.Bring [] ∷ event.End ∷ [])
      ≡ Connected 1 ∷ Refused refusal.Busy ∷ Refused refusal.Busy ∷ Refused refusal.Busy ∷ []
  pub no_request : answers 1000000 identity (event.Open ∷ event.Step ∷ event.Step ∷ event.Bring (piece.Eos ∷ []) ∷ event.End ∷ [])
      ≡ Connected 1 ∷ step_ok ∷ Refused refusal.Idle ∷ Refused refusal.NotInRequest ∷ Refused refusal.NotInRequest ∷ []
  pub in_request : answers 1000000 identity (beginning ++ event.Begin ∷ event.Step ∷ []) ≡ begun_well ++ Refused refusal.InRequest ∷ Refused refusal.Idle ∷ []
  pub data_after_eos : answers 1000000 identity (beginning ++ event.Bring (piece.Heap (97 ∷ []) ∷ piece.Eos ∷ piece.Heap (98 ∷ []) ∷ []) ∷ event.Step ∷ [])
      ≡ begun_well ++ Refused refusal.DataAfterEos ∷ Refused refusal.Idle ∷ []
  pub no_memory : (happening false identity (event.Bring []) (world_after identity beginning)).0 ≡ Refused refusal.NoMemory

-- How far names last: 2^64 - 2 is the last one, of pools as of all else.
pub record NameRuns : Type 0 where
  -- the call, the brigade and one bucket
  pub last_names : answers_with_names 4 (2 ^ 64 - 4) identity (a_heap [] ∷ event.Step ∷ []) ≡ Done ∷ went ∷ []
  pub one_short : answers_with_names 4 (2 ^ 64 - 3) identity (a_heap [] ∷ event.Step ∷ []) ≡ Refused refusal.NamesSpent ∷ Refused refusal.Idle ∷ []
  pub last_begin : answers_with_names (2 ^ 64 - 2) (2 ^ 64 - 2) identity (event.End ∷ event.Begin ∷ []) ≡ Done ∷ Done ∷ []
  pub no_name : answers_with_names 4 (2 ^ 64 - 1) identity (event.End ∷ event.Begin ∷ []) ≡ Done ∷ Refused refusal.NamesSpent ∷ []
  pub no_pool_name : answers_with_names (2 ^ 64 - 1) 4 identity (event.End ∷ event.Begin ∷ []) ≡ Done ∷ Refused refusal.NamesSpent ∷ []
  -- a step that finds no name breaks the connection
  pub last_brigade : answers_with_names 4 (2 ^ 64 - 3) gathers (event.Step ∷ event.End ∷ event.Begin ∷ event.Step ∷ []) ≡ step_ok ∷ Done ∷ Done ∷ went ∷ []
  pub no_brigade : answers_with_names 4 (2 ^ 64 - 2) gathers (event.Step ∷ event.End ∷ event.Begin ∷ event.Step ∷ event.Step ∷ [])
      ≡ step_ok ∷ Done ∷ Done ∷ broken_by cause.NamesSpent ∷ broken_by cause.NamesSpent ∷ []

-- a bucket of a kind and a home, whose content is not looked at
abbrev pub a_bucket : Kind → Home → NamedBucket
a_bucket k h = record { name = 90; bucket = record { kind = k; content = content.Nothing; home = h } }

-- what the call on top of the stack sees
abbrev pub seen_by : List Frame → Linked → Configuration
seen_by [] (g, c) = configuration g c (record { of = 0; call = fresh_call 0; pc = 0 })
seen_by (f ∷ fs) (g, c) = configuration g c f

-- what the call 1 of the first connection sees, as `open` of its one module begins
abbrev pub at_open : Configuration
at_open = (let w = opened (identity ∷ []) (new_world 1).common in seen_by w.1.stack w)

-- The call 1 of a connection with the pool 2, the request's pool 3 and the instance's own pool 5, whose brigade of this
-- number has these buckets.
abbrev pub holding : ℕ → Mark → List NamedBucket → Configuration
holding b mark items =
    record at_open {
      instance = record at_open.instance { pools = λ p. poolvar.Made 5; brigades = λ k. if k == b then var.Live (record { name = 80; on = Some 2; mark = mark; items = items }) else var.Null };
      shared = record at_open.shared { req = Some 3 };
    }

-- the same, where the pool 3 stands under the pool 2
abbrev pub in_request : List NamedBucket → Configuration
in_request items = record (holding 0 Usable items) { shared = record (holding 0 Usable items).shared { pools = created 2 (created 1 (planted 1)) } }

-- a run whose pool variable 0 names a dead pool, and the others a live one
abbrev pub dead_and_live : Configuration
dead_and_live = record at_open { instance = record at_open.instance { pools = λ p. if p == 0 then poolvar.Made 9 else poolvar.Made 2 } }

-- the first connection, where its instance and its pools are those of such a call, and none runs
abbrev pub between_calls : Configuration → Linked
between_calls r = (
  record { root = 1; pools = r.shared.pools.next; next = r.shared.next; file = r.shared.files.next },
  record (fresh_connection (new_world 1).common) { instances = λ k. r.instance; path = r.shared.pools.path; payloads = r.shared.pools.payloads; req = r.shared.req },
)

-- Faults of what may be held, and their order.
pub record HeldFaults : Type 0 where
  pub dead : fault gathers (holding 0 Usable (a_bucket kind.File home.Ended ∷ [])) (instr.Pass 0 5) ≡ Some fault_kind.F5
  pub dead_before_late : fault gathers (holding 0 Usable (a_bucket kind.Eos home.Free ∷ a_bucket kind.Transient home.Ended ∷ [])) (instr.Pass 0 5) ≡ Some fault_kind.F5
  pub late : fault gathers (holding 0 Usable (a_bucket kind.Eos home.Free ∷ a_bucket kind.Transient (home.Call 1) ∷ [])) (instr.Pass 0 5) ≡ Some fault_kind.F8
  pub flush_behind_eos : fault gathers (holding 0 Usable (a_bucket kind.Eos home.Free ∷ a_bucket kind.Flush home.Free ∷ [])) (instr.Pass 0 5) ≡ None
  pub passed_before_dead : fault gathers (holding 0 Passed (a_bucket kind.File home.Ended ∷ [])) (instr.Pass 0 5) ≡ Some fault_kind.F7
  pub left_before_right : fault gathers (holding 0 Passed []) (instr.BConcat 0 8) ≡ Some fault_kind.F7
  pub right : fault gathers (holding 0 Usable []) (instr.BConcat 0 8) ≡ Some fault_kind.F2
  pub dead_is_asked : fault gathers (holding 0 Usable (a_bucket kind.File home.Ended ∷ [])) (instr.JEmpty 0 5) ≡ None
  pub call_kept : fault gathers (holding 0 Usable (a_bucket kind.Transient (home.Call 1) ∷ [])) (instr.Ret Success) ≡ Some fault_kind.F6
  pub call_passed : fault gathers (holding 0 Passed (a_bucket kind.Transient (home.Call 1) ∷ [])) (instr.Ret Success) ≡ None
  pub call_in_in : fault gathers (holding 8 Usable (a_bucket kind.Transient (home.Call 1) ∷ [])) (instr.Ret Success) ≡ None
  pub dead_kept : fault gathers (holding 7 Usable (a_bucket kind.Transient home.Ended ∷ [])) (instr.Ret Success) ≡ None
  pub others_pool_kept : fault gathers (holding 7 Usable (a_bucket kind.File (home.Pool 4) ∷ [])) (instr.Ret Success) ≡ Some fault_kind.F6
  pub connection_pool_kept : fault gathers (holding 7 Usable (a_bucket kind.File (home.Pool 2) ∷ [])) (instr.Ret Success) ≡ None
  pub request_pool_kept : fault gathers (holding 7 Usable (a_bucket kind.File (home.Pool 3) ∷ [])) (instr.Ret Success) ≡ None
  pub own_pool_kept : fault gathers (holding 7 Usable (a_bucket kind.File (home.Pool 5) ∷ [])) (instr.Ret Success) ≡ None
  pub pool_before_brigade : fault lacks_its_pool (holding 0 Usable []) (instr.BCreate 0) ≡ Some fault_kind.F1
  pub live_brigade : fault creates_each_time (holding 0 Usable []) (instr.BCreate 0) ≡ Some fault_kind.F10
  pub passed_brigade : fault creates_each_time (holding 0 Passed []) (instr.BCreate 0) ≡ Some fault_kind.F10
  pub parent_before_new : fault cleans_up dead_and_live (instr.PCreate 1) ≡ Some fault_kind.F1
  pub dead_made_again : fault cleans_up dead_and_live (instr.PCreate 0) ≡ None
  pub live_pool : fault (two_pools []) (record dead_and_live { instance = record dead_and_live.instance { pools = λ p. poolvar.Made 2 } }) (instr.PCreate 1) ≡ Some fault_kind.F10

-- What a return and the end of a request make of the buckets that are held.
pub record HeldChanges : Type 0 where
  pub returned : items_of ((do_return (holding 0 Usable (a_bucket kind.Transient (home.Call 1) ∷ a_bucket kind.Transient (home.Call 9) ∷ a_bucket kind.File (home.Pool 3) ∷ []))).instance.brigades 0)
      ≡ a_bucket kind.Transient home.Ended ∷ a_bucket kind.Transient (home.Call 9) ∷ a_bucket kind.File (home.Pool 3) ∷ []
  pub in_goes : (do_return (holding 8 Usable (a_bucket kind.Heap home.Free ∷ []))).instance.brigades 8 ≡ var.Null
  pub request_ended : items_of (((request_over 3 (between_calls (in_request (a_bucket kind.File (home.Pool 3) ∷ a_bucket kind.File (home.Pool 2)
      ∷ a_bucket (kind.Pool 3) home.Free ∷ a_bucket (kind.Pool 2) home.Free ∷ [])))).1.instances 0).brigades 0)
      ≡ a_bucket kind.File home.Ended ∷ a_bucket kind.File (home.Pool 2) ∷ a_bucket kind.Heap home.Free ∷ a_bucket (kind.Pool 2) home.Free ∷ []
