-- Small chains as values, and what whole runs of them answer, worked out by hand. Reads fail, no file is found but where it is said, and memory is
-- ample.
use Rattle.std.specs.Prelude.{◌≡◌, ℕ, true, List, [], ◌∷◌, ◌++◌, replicate, Option, Some, None}
use Rattle.module_code.specs.Program.{Program}
use Rattle.module_code.specs.declared.instr.Instr.TheVariants as instr
use Rattle.module_code.specs.declared.instr.PoolRef.TheVariants as pool
use Rattle.module_code.specs.declared.instr.Status.TheVariants.{Success}
use Rattle.run_model.specs.declared.bucket.BrigadeVar.{BrigadeVar}
use Rattle.run_model.specs.declared.bucket.BrigadeVar.TheVariants as var
use Rattle.run_model.specs.declared.bucket.Mark.TheVariants.{Usable, Passed}
use Rattle.run_model.specs.declared.bucket.Kind.TheVariants as kind
use Rattle.run_model.specs.declared.bucket.Content.TheVariants as content
use Rattle.run_model.specs.declared.bucket.Home.TheVariants as home
use Rattle.run_model.specs.declared.event.Event.{Event}
use Rattle.run_model.specs.declared.event.Event.TheVariants as event
use Rattle.run_model.specs.declared.event.Piece.TheVariants as piece
use Rattle.run_model.specs.declared.event.Stepped.TheVariants as stepped
use Rattle.run_model.specs.declared.event.Cause.TheVariants as cause
use Rattle.run_model.specs.declared.event.Refusal.TheVariants as refusal
use Rattle.run_model.specs.declared.fault.FaultKind.TheVariants as fault_kind
use Rattle.model_laws.specs.Examples.{bare, left_by, answers_from, identity, with_main, never_creates}
use Rattle.run_model.specs.Chains.{Connection}
use Rattle.run_model.specs.Turns.{Opening, Found, Missing, Failing}
use Rattle.run_model.specs.Worlds.{World, Answer, Done, Refused, Connected, Step, Output, Opened, Labels, new_world, happens, tree_of}

abbrev pub stepping : ℕ → ℕ → List (ℕ × Event)
stepping n c = replicate n (c, event.Step)

abbrev pub wents : ℕ → List Answer
wents n = replicate n (Step stepped.Went)

abbrev pub ended : List Answer
ended = Step (stepped.CallEnded Success) ∷ []

-- a HEAP bucket of `a`, and an EOS, are brought
abbrev pub brings : ℕ → List (ℕ × Event)
brings c = (c, event.Bring (piece.Heap (97 ∷ []) ∷ piece.Eos ∷ [])) ∷ []

-- Two filters that pass on what comes: five instructions go on, and the sixth ends the outermost call.
abbrev pub ChainOfTwo : Type 0
ChainOfTwo = answers_from bare 100 (identity ∷ identity ∷ []) (new_world 1)
    ((1, event.Open) ∷ (stepping 2 1 ++ ((1, event.Begin) ∷ (stepping 2 1 ++ (brings 1 ++ (stepping 6 1 ++ ((1, event.TakeOutput) ∷ [])))))))
    ≡ Connected 1 ∷ (wents 1 ++ (ended ++ (Done ∷ (wents 1 ++ (ended ++ (Done ∷ (wents 5 ++ (ended ++ (Output (97 ∷ []) ∷ [])))))))))

-- `brigade b0 conn`; open: `bcreate b0` `ret ok`; main: `flush c0` `tail b0 c0` `pass b0 bad` `:bad` `eos c1` `tail b0 c1` `ret ok`: it
-- uses what it passed
abbrev pub uses_passed : Program
uses_passed = record {
  pools = [];
  brigades = pool.Conn ∷ [];
  texts = [];
  init = 2;
  main = 3;
  code = instr.BCreate 0 ∷ instr.Ret Success ∷ instr.Ret Success ∷ instr.Flush 0 ∷ instr.Tail 0 0 ∷ instr.Pass 0 6 ∷ instr.Eos 1 ∷ instr.Tail 0 1 ∷ instr.Ret Success ∷ [];
}

-- The fault is that of the second module, and the connection breaks; nothing was put out.
abbrev pub FaultInSecond : Type 0
FaultInSecond = answers_from bare 100 (identity ∷ uses_passed ∷ []) (new_world 1)
    ((1, event.Open) ∷ (stepping 3 1 ++ ((1, event.Begin) ∷ (stepping 2 1 ++ (brings 1 ++ (stepping 7 1 ++ ((1, event.TakeOutput) ∷ (stepping 1 1))))))))
    ≡ Connected 1 ∷ (wents 2 ++ (ended
    ++ (Done ∷ (wents 1 ++ (ended ++ (Done ∷ (wents 6 ++ (Step (stepped.Fault fault_kind.F7 1 7) ∷ (Output [] ∷ (Refused (refusal.Broken cause.Faulted) ∷ []))))))))))

-- One of two connections is closed in the middle of a call. The other goes on.
abbrev pub InterleavedClose : Type 0
InterleavedClose = answers_from bare 100 (identity ∷ []) (new_world 1)
    ((1, event.Open) ∷ (1, event.Step) ∷ (2, event.Open) ∷ (2, event.Step) ∷ (1, event.Begin) ∷ (1, event.Step) ∷ (2, event.Begin) ∷ (2, event.Step)
    ∷ (1, event.Bring (piece.Heap (120 ∷ []) ∷ piece.Eos ∷ [])) ∷ (2, event.Bring (piece.Heap (121 ∷ []) ∷ piece.Eos ∷ []))
    ∷ (1, event.Step) ∷ (2, event.Step) ∷ (1, event.Close) ∷ (1, event.Step) ∷ (2, event.Step) ∷ (2, event.Step) ∷ (2, event.TakeOutput) ∷ [])
    ≡ Connected 1 ∷ (ended ++ (Connected 2
    ∷ (ended ++ (Done ∷ (ended ++ (Done
    ∷ (ended ++ (Done ∷ Done ∷ Step stepped.Went ∷ Step stepped.Went ∷ Labels [] ∷ Refused refusal.NoSuchConn ∷ Step stepped.Went
    ∷ Step (stepped.CallEnded Success) ∷ Output (121 ∷ []) ∷ []))))))))

-- The budget is met by one connection and not by the other: its count is its own.
abbrev pub BudgetIsItsOwn : Type 0
BudgetIsItsOwn = answers_from bare 2 (identity ∷ []) (new_world 1)
    ((1, event.Open) ∷ (1, event.Step) ∷ (2, event.Open) ∷ (2, event.Step) ∷ (1, event.Begin) ∷ (1, event.Step) ∷ (brings 1 ++ (stepping 3 1 ++ ((2, event.Begin) ∷ (2, event.Step) ∷ []))))
    ≡ Connected 1 ∷ (ended ++ (Connected 2 ∷ (ended ++ (Done ∷ (ended ++ (Done ∷ (wents 2 ++ (Refused (refusal.Broken cause.OutOfSteps) ∷ (Done ∷ ended)))))))))

-- The refusals, by the state of a connection.
abbrev pub RefusalsByState : Type 0
RefusalsByState = answers_from bare 100 (identity ∷ []) (new_world 1)
    ((1, event.Open) ∷ (1, event.Begin) ∷ (1, event.Step) ∷ (1, event.Step) ∷ (1, event.Bring (piece.Eos ∷ [])) ∷ (1, event.Begin) ∷ (1, event.Step) ∷ (1, event.Begin)
    ∷ (1, event.Bring (piece.File 1 0 1 ∷ [])) ∷ (9, event.Step) ∷ (1, event.End) ∷ (1, event.End) ∷ (9, event.TellLabels) ∷ [])
    ≡ Connected 1 ∷ Refused refusal.Busy ∷ Step (stepped.CallEnded Success) ∷ Refused refusal.Idle ∷ Refused refusal.NotInRequest ∷ Done ∷ Step (stepped.CallEnded Success) ∷ Refused refusal.InRequest
    ∷ Refused refusal.NoFile ∷ Refused refusal.NoSuchConn ∷ Done ∷ Refused refusal.NotInRequest ∷ Refused refusal.NoSuchConn ∷ []

-- what is in a brigade of an instance
abbrev pub brigade_in : ℕ → ℕ → ℕ → World → Option BrigadeVar
brigade_in k of b w = in_conn (w.conns k) where
  in_conn : Option Connection → Option BrigadeVar
  in_conn None = None
  in_conn (Some c) = Some ((c.instances of).brigades b)

-- `ret ok`: it takes nothing
abbrev pub takes_nothing : Program
takes_nothing = with_main (instr.Ret Success ∷ [])

-- What the second filter leaves is the first one's again, in the brigade that it passed, which stays marked.
abbrev pub LeftoversComeBack : Type 0
LeftoversComeBack = brigade_in 1 0 8 (left_by bare 100 (identity ∷ takes_nothing ∷ []) (new_world 1)
    ((1, event.Open) ∷ (stepping 2 1 ++ ((1, event.Begin) ∷ (stepping 2 1 ++ ((1, event.Bring (piece.Heap (97 ∷ []) ∷ [])) ∷ stepping 3 1))))))
    ≡ Some (var.Live (record { name = 6; on = None; mark = Passed; items = record { name = 7; bucket = record { kind = kind.Heap; content = content.Bytes (97 ∷ []); home = home.Free } } ∷ [] }))

-- `pool p0 conn` `brigade b0 conn`; open: `pcreate p0` `bcreate b0` `ret ok`; main: `clearbuf` `poolb c0 p0` `tail b0 c0` `pass b0 full`
-- `:full` `pclear p0` `ret ok`: it passes a POOL bucket, and clears its pool
abbrev pub clears_its_pool : Program
clears_its_pool = record {
  pools = pool.Conn ∷ [];
  brigades = pool.Conn ∷ [];
  texts = [];
  init = 3;
  main = 4;
  code = instr.PCreate 0 ∷ instr.BCreate 0 ∷ instr.Ret Success ∷ instr.Ret Success ∷ instr.ClearBuf ∷ instr.PoolB 0 (pool.Own 0) ∷ instr.Tail 0 0
      ∷ instr.Pass 0 8 ∷ instr.PClear 0 ∷ instr.Ret Success ∷ [];
}

-- `brigade b0 conn`; open: `bcreate b0` `ret ok`; main: `bconcat b0 in` `ret ok`: it keeps what comes
abbrev pub keeps : Program
keeps = record { pools = []; brigades = pool.Conn ∷ []; texts = []; init = 2; main = 3; code = instr.BCreate 0 ∷ instr.Ret Success ∷ instr.Ret Success ∷ instr.BConcat 0 8 ∷ instr.Ret Success ∷ [] }

-- A clear reaches what another filter keeps: a POOL bucket of the pool becomes HEAP.
abbrev pub ClearReachesOthers : Type 0
ClearReachesOthers = brigade_in 1 1 0 (left_by bare 100 (clears_its_pool ∷ keeps ∷ []) (new_world 1)
    ((1, event.Open) ∷ (stepping 5 1 ++ ((1, event.Begin) ∷ (stepping 2 1 ++ ((1, event.Bring []) ∷ stepping 8 1))))))
    ≡ Some (var.Live (record { name = 4; on = Some 2; mark = Usable; items = record { name = 9; bucket = record { kind = kind.Heap; content = content.Bytes []; home = home.Free } } ∷ [] }))

-- A file is opened on a connection, with what the device tells.
abbrev pub opening_on : ℕ → Opening → World → Answer × World
opening_on k opening w = happens true 100 (identity ∷ []) (record { reads = λ k. None; opening = opening }) k (event.OpenFile (102 ∷ [])) w

abbrev pub opening_of : Opening → World → Answer × World
opening_of opening w = opening_on 1 opening w

-- An opening finds bytes, no file, or a device that fails. What was refused changes nothing, and one file may be found with other bytes
-- at each opening, also under a later number. Out of a request nothing is opened, whatever the device tells.
abbrev pub OpeningsAreTold : Type 0
OpeningsAreTold =
    let idle = left_by bare 100 (identity ∷ []) (new_world 1) ((1, event.Open) ∷ (1, event.Step) ∷ []) in
    let serving = left_by bare 100 (identity ∷ []) idle ((1, event.Begin) ∷ (1, event.Step) ∷ []) in
    let first = opening_of (Found 0 (97 ∷ 98 ∷ [])) serving in
    let failed = opening_of Failing first.1 in
    ((opening_of Failing idle).0 ≡ Refused refusal.NotInRequest) × (first.0 ≡ Opened 1 2) × (failed.0 ≡ Refused refusal.FileFailed)
    × ((opening_of Missing failed.1).0 ≡ Refused refusal.NoFile) × ((opening_of (Found 0 []) failed.1).0 ≡ Opened 2 0)
    × ((opening_of (Found 1 []) failed.1).0 ≡ Opened 3 0)

-- two connections, each in a request
abbrev pub two_serving : World
two_serving = left_by bare 100 (identity ∷ []) (new_world 1)
    ((1, event.Open) ∷ (1, event.Step) ∷ (2, event.Open) ∷ (2, event.Step) ∷ (1, event.Begin) ∷ (1, event.Step) ∷ (2, event.Begin) ∷ (2, event.Step) ∷ [])

-- what an open file of a connection held
abbrev pub file_in : ℕ → ℕ → World → Option (List ℕ)
file_in k file w = in_conn (w.conns k) where
  in_conn : Option Connection → Option (List ℕ)
  in_conn None = None
  in_conn (Some c) = c.opened file

-- The end of a request closes its file. That of another connection stays open.
abbrev pub EndSparesOthersFiles : Type 0
EndSparesOthersFiles =
    let mine = (opening_on 1 (Found 0 (97 ∷ [])) two_serving).1 in
    let both = (opening_on 2 (Found 0 (98 ∷ [])) mine).1 in
    let after = left_by bare 100 (identity ∷ []) both ((1, event.End) ∷ []) in
    (file_in 1 1 both ≡ Some (97 ∷ [])) × (file_in 1 1 after ≡ None) × (file_in 2 2 after ≡ Some (98 ∷ []))

-- With a close go its connection's pool, 2, and its request's, 4. Those of the other connection stay: 3, and 5 under it.
abbrev pub CloseTakesItsPools : Type 0
CloseTakesItsPools =
    let after = tree_of (left_by bare 100 (identity ∷ []) two_serving ((1, event.Close) ∷ [])) in
    ((tree_of two_serving).path 4 ≡ 4 ∷ 2 ∷ 1 ∷ []) × (after.path 2 ≡ []) × (after.path 4 ≡ []) × (after.path 3 ≡ 3 ∷ 1 ∷ []) × (after.path 5 ≡ 5 ∷ 3 ∷ 1 ∷ [])

-- A module alone cleans a brigade that was never created.
abbrev pub cleans_none : List (ℕ × Event)
cleans_none = (1, event.Open) ∷ (1, event.Step) ∷ (1, event.Begin) ∷ (1, event.Step) ∷ (1, event.Bring []) ∷ (1, event.Step) ∷ []

abbrev pub NoBrigade : Type 0
NoBrigade = answers_from bare 100 (never_creates ∷ []) (new_world 1) cleans_none ≡ Connected 1 ∷ (ended ++ (Done ∷ (ended ++ (Done ∷ Step (stepped.Fault fault_kind.F2 0 2) ∷ []))))

pub record ChainRuns : Type 0 where
  pub two : ChainOfTwo
  pub fault : FaultInSecond
  pub close : InterleavedClose
  pub budget : BudgetIsItsOwn
  pub refusals : RefusalsByState
  pub leftovers : LeftoversComeBack
  pub clears : ClearReachesOthers
  pub openings : OpeningsAreTold
  pub ends : EndSparesOthersFiles
  pub closes : CloseTakesItsPools
  pub no_brigade : NoBrigade
