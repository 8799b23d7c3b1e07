-- A request on the host of chains, alone or among others: then what belongs to other connections may stand between its events.
use Rattle.std.specs.Prelude.{◌≡◌, ℕ, zero, suc, ◌+◌, ◌^◌, ◌≤◌, List, [], length, Option, Some, None, Result, Ok, IfOk}
use Rattle.module_code.specs.Program.{Program}
use Rattle.run_model.specs.declared.event.Event.{Event}
use Rattle.run_model.specs.declared.event.Event.TheVariants as event
use Rattle.run_model.specs.declared.event.Piece.{Piece}
use Rattle.run_model.specs.declared.event.Refusal.{Refusal}
use Rattle.run_model.specs.declared.event.Stepped.{Stepped}
use Rattle.run_model.specs.declared.event.Stepped.TheVariants as stepped
use Rattle.run_model.specs.Worlds.{Answer, Step}
use Rattle.bucket_kinds.specs.Device.{Device}
use Rattle.filter_chain.specs.declared.host.Host.{Host}
use Rattle.filter_chain.specs.Hosting.{Ghosts, Stored, step_answer}
use Rattle.filter_chain.specs.HostViews.{HostView, Answers}
use Rattle.filter_chain.specs.Running.{StepsToEnd}
use Rattle.http_message.specs.declared.failure.Failure.{Failure}
use Rattle.http_message.specs.declared.reply.Method.{Method}
use Rattle.http_front.specs.Driven.{GoesByOthers, Refines}
use Rattle.http_front.specs.Nearing.{Nears}
use Rattle.http_front.specs.RequestEvents as by
use Rattle.http_front.specs.declared.fault.FrontKind.{FrontKind}
use Rattle.http_front.specs.declared.handler.RequestOutcome.{RequestOutcome}
use Rattle.http_front.specs.declared.handler.Slice.{Slice}
use Rattle.http_front.specs.declared.handler.Slice.TheVariants as slice
use Rattle.http_front.specs.declared.running.CallEnd.{CallEnd}
use Rattle.http_front.specs.declared.task.FileRest.{FileRest}
use Rattle.http_front.specs.declared.task.RequestTask.{RequestTask}
use Rattle.http_front.specs.declared.task.RequestTask.TheVariants as task

-- Whether events of other connections may stand before each event of a request.
pub data Way : Type 0 where
  alone : Way
  among : Way

-- the brigades that are left to be brought
abbrev pub brigades_left : Option FileRest → List (List Piece)
brigades_left None = []
brigades_left (Some rest) = by.brigades_from rest.file rest.len rest.start rest.left

module _ (budget : ℕ) (chain : List Program) (number : ℕ) where
  -- Events of other connections happened, it may be none.
  abbrev pub OthersHappen : HostView → HostView → Type 0
  OthersHappen old new = (events : List (ℕ × Event × Answer)) × GoesByOthers budget chain number events old new

  -- An event of this connection is answered. Before it, only events of others happened.
  abbrev pub AnswersLater : Event → HostView → Answer → HostView → Type 0
  AnswersLater what old answer new = (mid : HostView) × OthersHappen old mid × Answers budget chain number what mid answer new

  -- So many steps go on, and events of others happened before each.
  unfoldable pub GoesOnLater : ℕ → HostView → HostView → Type 0
  GoesOnLater zero old new = new ≡ old
  GoesOnLater (suc n) old new = (mid : HostView) × AnswersLater event.Step old (Step stepped.Went) mid × GoesOnLater n mid new

  -- Steps are made until one answers something else than that it went. No more go on than the budget allows.
  pub record StepsLater (old : HostView) (answer : Result Stepped Refusal) (new : HostView) : Type 0 where
    pub count : ℕ
    pub before : HostView
    pub few : count ≤ budget
    pub goes : GoesOnLater count old before
    pub last : AnswersLater event.Step before (step_answer answer) new
    pub stops : ¬ (answer ≡ Ok stepped.Went)

-- an event of the connection of this number
abbrev pub AnswersIn : Way → ℕ → List Program → ℕ → Event → HostView → Answer → HostView → Type 0
AnswersIn alone budget chain number = Answers budget chain number
AnswersIn among budget chain number = AnswersLater budget chain number

-- steps of it, until one answers something else than that it went
abbrev pub CallsIn : Way → ℕ → List Program → ℕ → HostView → Result Stepped Refusal → HostView → Type 0
CallsIn alone budget chain number = StepsToEnd budget chain number
CallsIn among budget chain number = StepsLater budget chain number

module _ (way : Way) (budget : ℕ) (chain : List Program) (number : ℕ) where
  abbrev pub RunsIn : HostView → CallEnd → HostView → Type 0
  RunsIn = by.RunsCall (AnswersIn way budget chain number) (CallsIn way budget chain number)

  abbrev pub EndsRequestIn : HostView → HostView → Type 0
  EndsRequestIn = by.EndsRequest (AnswersIn way budget chain number) (CallsIn way budget chain number)

  abbrev pub EndsBareIn : Option Failure → HostView → RequestOutcome → HostView → Type 0
  EndsBareIn = by.EndsBare (AnswersIn way budget chain number) (CallsIn way budget chain number)

  abbrev pub TakesOutputIn : HostView → RequestOutcome → HostView → Type 0
  TakesOutputIn = by.TakesOutput (AnswersIn way budget chain number) (CallsIn way budget chain number)

  abbrev pub EndsWithOutputIn : HostView → RequestOutcome → HostView → Type 0
  EndsWithOutputIn = by.EndsWithOutput (AnswersIn way budget chain number) (CallsIn way budget chain number)

  abbrev pub FinishesIn : CallEnd → HostView → RequestOutcome → HostView → Type 0
  FinishesIn = by.Finishes (AnswersIn way budget chain number) (CallsIn way budget chain number)

  abbrev pub BringsAllIn : List (List Piece) → HostView → CallEnd → HostView → Type 0
  BringsAllIn = by.BringsAll (AnswersIn way budget chain number) (CallsIn way budget chain number)

  abbrev pub CarriesIn : CallEnd → List (List Piece) → HostView → RequestOutcome → HostView → Type 0
  CarriesIn = by.Carries (AnswersIn way budget chain number) (CallsIn way budget chain number)

  abbrev pub EndsCallIn : List (List Piece) → HostView → RequestOutcome → HostView → Type 0
  EndsCallIn = by.EndsCall (AnswersIn way budget chain number) (CallsIn way budget chain number)

  abbrev pub OpensIn : CallEnd → Method → List ℕ → HostView → RequestOutcome → HostView → Type 0
  OpensIn = by.OpensAndFeeds (AnswersIn way budget chain number) (CallsIn way budget chain number)

  abbrev pub OpensUnlessIn : CallEnd → Method → List ℕ → HostView → RequestOutcome → HostView → Type 0
  OpensUnlessIn = by.OpensUnless (AnswersIn way budget chain number) (CallsIn way budget chain number)

  abbrev pub InitsIn : Method → List ℕ → HostView → RequestOutcome → HostView → Type 0
  InitsIn = by.Inits (AnswersIn way budget chain number) (CallsIn way budget chain number)

  abbrev pub ComesIn : Method → List ℕ → HostView → RequestOutcome → HostView → Type 0
  ComesIn = by.ComesOf (AnswersIn way budget chain number) (CallsIn way budget chain number)

  -- A slice of a call ended it so. Or what is left of the call, when it is run, makes it whole.
  abbrev pub RunsSlice : Option CallEnd → HostView → HostView → Type 0
  RunsSlice (Some how) old now = RunsIn old how now
  RunsSlice None old now = (how : CallEnd) (new : HostView) → RunsIn now how new → RunsIn old how new

  -- what is left behind the call that was under way, which ended so
  abbrev pub RestsBehind : RequestTask → CallEnd → HostView → RequestOutcome → HostView → Type 0
  RestsBehind (task.Opens method name) how old o new = OpensUnlessIn how method name.items old o new
  RestsBehind (task.Brings rest) how old o new = CarriesIn how (brigades_left rest) old o new

  -- What is left of a request that is under way comes to this outcome.
  abbrev pub Rests : RequestTask → HostView → RequestOutcome → HostView → Type 0
  Rests (task.Opens method name) old o new = InitsIn method name.items old o new
  Rests (task.Brings rest) old o new = EndsCallIn (brigades_left rest) old o new

  -- A slice of a request came to its outcome, and this was done. Or it was done once what is left is.
  abbrev pub Slices : (HostView → RequestOutcome → HostView → Type 0) → HostView → Slice RequestTask → HostView → Type 0
  Slices all old slice now = Nears (all old) (λ task. Rests task now) now slice

-- A request among others comes to this outcome.
abbrev pub ComesLater : ℕ → List Program → ℕ → Method → List ℕ → HostView → RequestOutcome → HostView → Type 0
ComesLater = ComesIn among

-- what a slice is a part of
abbrev pub Whole : Type 1
Whole = Way → ℕ → List Program → HostView → RequestOutcome → HostView → Type 0

-- A slice of this was made, unless something lacked; alone and among others.
abbrev pub MakesSlice : {F R : Type 0} {g : Ghosts R Stored} → (F → Device) → ℕ → Whole → Host F R g → Result (Slice RequestTask) FrontKind → Host F R g → Type 0
MakesSlice device number all old r new = (way : Way) → Refines device old new (λ b c s t. IfOk r (λ x. Slices way b c number (all way b c) s x t))

-- A request for a file on the connection of this number comes to this outcome.
unfoldable pub HandlesAmong : {F R : Type 0} {g : Ghosts R Stored} → (F → Device) → Host F R g → ℕ → Method → List ℕ → RequestOutcome → Host F R g → Type 0
HandlesAmong device old number method file o new = Refines device old new (λ b c s t. ComesLater b c number method file s o t)

-- So does what is left of one.
unfoldable pub RestsAmong : {F R : Type 0} {g : Ghosts R Stored} → (F → Device) → Host F R g → ℕ → RequestTask → RequestOutcome → Host F R g → Type 0
RestsAmong device old number task o new = Refines device old new (λ b c s t. Rests among b c number task s o t)

-- `init` is under way, and then this file is to be opened.
abbrev pub OpensNext : Method → List ℕ → RequestTask → Type 0
OpensNext method name (task.Opens m n) = (m ≡ method) × (n.items ≡ name)
OpensNext method name (task.Brings rest) = ⊥

-- how many calls are under way or still made of a request, at most; a file has fewer brigades than 2^64
abbrev pub calls_left : RequestTask → ℕ
calls_left (task.Opens method name) = 2 ^ 64
calls_left (task.Brings rest) = 1 + length (brigades_left rest)

abbrev pub calls_after : Slice RequestTask → ℕ
calls_after (slice.Done o) = 0
calls_after (slice.Works task) = calls_left task
