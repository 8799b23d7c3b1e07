-- A request on a host of chains: its events, and what it comes to, whatever may stand between them.
use Rattle.std.specs.Prelude.{◌≡◌, ℕ, zero, suc, ◌+◌, ◌-◌, ◌/◌, List, [], ◌∷◌, Option, Some, None, Result, Ok, Err}
use Rattle.module_code.specs.declared.instr.Status.TheVariants as call
use Rattle.run_model.specs.declared.event.Cause.TheVariants as cause
use Rattle.run_model.specs.Worlds.{Answer, Refused}
use Rattle.run_model.specs.declared.event.Event.{Event}
use Rattle.run_model.specs.declared.event.Event.TheVariants as event
use Rattle.run_model.specs.declared.event.Piece.{Piece}
use Rattle.run_model.specs.declared.event.Piece.TheVariants as piece
use Rattle.run_model.specs.declared.event.Refusal.{Refusal}
use Rattle.run_model.specs.declared.event.Refusal.TheVariants as refusal
use Rattle.run_model.specs.declared.event.Stepped.{Stepped}
use Rattle.run_model.specs.declared.event.Stepped.TheVariants as stepped
use Rattle.filter_chain.specs.Hosting.{done_answer, file_answer, output_answer}
use Rattle.filter_chain.specs.HostViews.{HostView}
use Rattle.http_message.specs.declared.failure.Failure.{Failure}
use Rattle.http_message.specs.declared.failure.Failure.TheVariants as failure
use Rattle.http_message.specs.declared.reply.Method.{Method}
use Rattle.http_message.specs.declared.reply.Method.TheVariants.{Get, Head, Other}
use Rattle.http_message.specs.declared.status.StatusCode.TheVariants.{Success}
use Rattle.http_front.specs.Outcomes.{IsUnserved}
use Rattle.http_front.specs.declared.fault.FrontKind.{FrontKind}
use Rattle.http_front.specs.declared.fault.FrontKind.TheVariants as kind
use Rattle.http_front.specs.declared.handler.RequestOutcome.{RequestOutcome}
use Rattle.http_front.specs.declared.running.CallEnd.{CallEnd}
use Rattle.http_front.specs.declared.running.CallEnd.TheVariants as ended

-- The brigades of a file.

-- the most bytes of a file in one brigade
abbrev pub piece_bytes : ℕ
piece_bytes = 65536

-- the last bytes of a file, from a place on: a FILE piece, where there are any, and an EOS
abbrev pub last_brigade : ℕ → ℕ → ℕ → List Piece
last_brigade file at zero = piece.Eos ∷ []
last_brigade file at (suc n) = piece.File file at (suc n) ∷ piece.Eos ∷ []

-- from a place of a file of len bytes on, so many brigades of one FILE piece, and the last
unfoldable pub brigades_from : ℕ → ℕ → ℕ → ℕ → List (List Piece)
brigades_from file len at zero = last_brigade file at (len - at) ∷ []
brigades_from file len at (suc n) = (piece.File file at piece_bytes ∷ []) ∷ brigades_from file len (at + piece_bytes) n

-- the brigades of a file of len bytes
unfoldable pub brigades_of : ℕ → ℕ → List (List Piece)
brigades_of file len = brigades_from file len 0 ((len - 1) / piece_bytes)

-- what is brought of a file: GET all of it, any other method nothing
abbrev pub brigades_for : Method → ℕ × ℕ → List (List Piece)
brigades_for Get file = brigades_of file.0 file.1
brigades_for Head file = []
brigades_for Other file = []

-- What is answered.

-- what a refusal lacks, memory or names
abbrev pub lack_of : Refusal → Option FrontKind
lack_of refusal.NoMemory = Some kind.NoMemory
lack_of refusal.NamesSpent = Some kind.NamesSpent
lack_of r = None

-- an instruction had a fault
abbrev pub faulted : Failure
faulted = failure.Refused (refusal.Broken cause.Faulted)

-- how a call ended, by the answer of its last step
abbrev pub ended_of : Result Stepped Refusal → CallEnd
ended_of (Ok (stepped.CallEnded call.Success)) = ended.Succeeded
ended_of (Ok (stepped.CallEnded call.Fail)) = ended.Failed failure.Filter
ended_of (Ok stepped.Went) = ended.Broke faulted
ended_of (Ok (stepped.Fault k m pc)) = ended.Broke faulted
ended_of (Err r) = ended.Broke (failure.Refused r)

-- the failure where a file is not opened: none where it is not there
abbrev pub unopened : Refusal → Option Failure
unopened refusal.NoFile = None
unopened r = Some (failure.Refused r)

abbrev pub IfSucceeded : CallEnd → Type 0 → Type 0 → Type 0
IfSucceeded ended.Succeeded then other = then
IfSucceeded (ended.Failed why) then other = other
IfSucceeded (ended.Broke why) then other = other

-- a 200 with the output
abbrev pub IsOutput : Result (List ℕ) Refusal → RequestOutcome → Type 0
IsOutput (Ok bytes) o = (o.status ≡ Success) × (o.body ≡ bytes) × (o.failure ≡ None)
IsOutput (Err r) o = IsUnserved (Some (failure.Refused r)) o

-- an event of a request that may be refused for lack of memory or names
abbrev pub IsOfRequest : Event → Type 0
IsOfRequest event.Begin = Unit {0}
IsOfRequest (event.OpenFile name) = Unit {0}
IsOfRequest (event.Bring pieces) = Unit {0}
IsOfRequest event.End = Unit {0}
IsOfRequest e = ⊥

-- The events, on one connection. does: an event is answered so, and leads from one scene to another. calls: so do steps that are made until one
-- answers something else than that it went.

module _ (does : Event → HostView → Answer → HostView → Type 0) (calls : HostView → Result Stepped Refusal → HostView → Type 0) where
  -- Steps are made until one answers something else than that it went.
  pub record RunsCall (old : HostView) (how : CallEnd) (new : HostView) : Type 0 where
    pub answer : Result Stepped Refusal
    pub runs : calls old answer new
    pub told : how ≡ ended_of answer

  -- An event of a request was refused, for want of this.
  pub record IsRefusedFor (e : FrontKind) (old new : HostView) : Type 0 where
    pub what : Event
    pub why : Refusal
    pub asked : IsOfRequest what
    pub lacks : lack_of why ≡ Some e
    pub acts : does what old (Refused why) new

  -- The request ends, if it does not lack memory.
  pub record EndsRequest (old new : HostView) : Type 0 where
    pub answer : Option Refusal
    pub acts : does event.End old (done_answer answer) new
    pub lacks : (r : Refusal) → answer ≡ Some r → lack_of r ≡ None

  -- A call was to begin: it runs to its end, or it was refused, for what it does not lack.
  abbrev pub RunsCallUnless : Option Refusal → HostView → CallEnd → HostView → Type 0
  RunsCallUnless None old how new = RunsCall old how new
  RunsCallUnless (Some r) old how new = (lack_of r ≡ None) × (how ≡ ended.Failed (failure.Refused r)) × (new ≡ old)

  -- A brigade is brought, and its call runs to its end.
  pub record BringsBrigade (pieces : List Piece) (old : HostView) (how : CallEnd) (new : HostView) : Type 0 where
    pub answer : Option Refusal
    pub mid : HostView
    pub acts : does (event.Bring pieces) old (done_answer answer) mid
    pub runs : RunsCallUnless answer mid how new

  -- Brigades are brought, up to the first that does not succeed.
  unfoldable pub BringsAll : List (List Piece) → HostView → CallEnd → HostView → Type 0
  BringsAll [] old how new = (how ≡ ended.Succeeded) × (new ≡ old)
  BringsAll (b ∷ bs) old how new =
      (first : CallEnd) × (mid : HostView) × BringsBrigade b old first mid × IfSucceeded first (BringsAll bs mid how new) ((how ≡ first) × (new ≡ mid))

  -- The request ends without content.
  abbrev pub EndsBare : Option Failure → HostView → RequestOutcome → HostView → Type 0
  EndsBare why old o new = IsUnserved why o × EndsRequest old new

  -- The output is taken.
  pub record TakesOutput (old : HostView) (o : RequestOutcome) (new : HostView) : Type 0 where
    pub answer : Result (List ℕ) Refusal
    pub acts : does event.TakeOutput old (output_answer answer) new
    pub gives : IsOutput answer o

  -- Then the request ends.
  abbrev pub EndsWithOutput : HostView → RequestOutcome → HostView → Type 0
  EndsWithOutput old o new = (mid : HostView) × TakesOutput old o mid × EndsRequest mid new

  -- What a request comes to whose calls ended so. The request of a broken connection does not end.
  abbrev pub Finishes : CallEnd → HostView → RequestOutcome → HostView → Type 0
  Finishes ended.Succeeded old o new = EndsWithOutput old o new
  Finishes (ended.Failed why) old o new = EndsBare (Some why) old o new
  Finishes (ended.Broke why) old o new = IsUnserved (Some why) o × (new ≡ old)

  -- These brigades are brought, unless the call before did not succeed, and the request finishes. first: how that ended
  pub record Carries (first : CallEnd) (left : List (List Piece)) (old : HostView) (o : RequestOutcome) (new : HostView) : Type 0 where
    pub how : CallEnd
    pub mid : HostView
    pub brings : IfSucceeded first (BringsAll left old how mid) ((how ≡ first) × (mid ≡ old))
    pub finishes : Finishes how mid o new

  -- The call of a brigade runs to its end, and the request goes on with the brigades that are left.
  pub record EndsCall (left : List (List Piece)) (old : HostView) (o : RequestOutcome) (new : HostView) : Type 0 where
    pub first : CallEnd
    pub mid : HostView
    pub runs : RunsCall old first mid
    pub carries : Carries first left mid o new

  -- The file is brought, unless `init` failed, and the request finishes.
  pub record Feeds (init : CallEnd) (method : Method) (file : ℕ × ℕ) (old : HostView) (o : RequestOutcome) (new : HostView) : Type 0 where
    pub how : CallEnd
    pub mid : HostView
    pub brings : IfSucceeded init (BringsAll (brigades_for method file) old how mid) ((how ≡ init) × (mid ≡ old))
    pub finishes : Finishes how mid o new

  abbrev pub FeedsIf : Result (ℕ × ℕ) Refusal → CallEnd → Method → HostView → RequestOutcome → HostView → Type 0
  FeedsIf (Ok file) init method old o new = Feeds init method file old o new
  FeedsIf (Err r) init method old o new = (lack_of r ≡ None) × EndsBare (unopened r) old o new

  -- The file is opened, and the request goes on with it.
  pub record OpensAndFeeds (init : CallEnd) (method : Method) (file : List ℕ) (old : HostView) (o : RequestOutcome) (new : HostView) : Type 0 where
    pub answer : Result (ℕ × ℕ) Refusal
    pub mid : HostView
    pub acts : does (event.OpenFile file) old (file_answer answer) mid
    pub feeds : FeedsIf answer init method mid o new

  abbrev pub OpensUnless : CallEnd → Method → List ℕ → HostView → RequestOutcome → HostView → Type 0
  OpensUnless ended.Succeeded method file old o new = OpensAndFeeds ended.Succeeded method file old o new
  OpensUnless (ended.Failed why) method file old o new = OpensAndFeeds (ended.Failed why) method file old o new
  OpensUnless (ended.Broke why) method file old o new = IsUnserved (Some why) o × (new ≡ old)

  -- `init` runs, and the request goes on.
  pub record Inits (method : Method) (file : List ℕ) (old : HostView) (o : RequestOutcome) (new : HostView) : Type 0 where
    pub init : CallEnd
    pub mid : HostView
    pub runs : RunsCall old init mid
    pub opens : OpensUnless init method file mid o new

  abbrev pub InitsIf : Option Refusal → Method → List ℕ → HostView → RequestOutcome → HostView → Type 0
  InitsIf None method file old o new = Inits method file old o new
  InitsIf (Some r) method file old o new = (lack_of r ≡ None) × IsUnserved (Some (failure.Refused r)) o × (new ≡ old)

  -- A request for a file comes to this outcome.
  pub record ComesOf (method : Method) (file : List ℕ) (old : HostView) (o : RequestOutcome) (new : HostView) : Type 0 where
    pub answer : Option Refusal
    pub mid : HostView
    pub acts : does event.Begin old (done_answer answer) mid
    pub inits : InitsIf answer method file mid o new
