-- A connection of the host: it is opened, its requests are served, and it is closed.
use Rattle.std.specs.Prelude.{◌≡◌, ℕ, Bool, true, false, List, [], Option, Some, None, Result, Ok, Err, ◌⊎◌}
use Rattle.std.specs.Io.KnownBytes.{Appends}
use Rattle.module_code.specs.Program.{Program}
use Rattle.run_model.specs.declared.event.Event.TheVariants as event
use Rattle.run_model.specs.declared.event.Refusal.{Refusal}
use Rattle.run_model.specs.declared.event.Refusal.TheVariants as refusal
use Rattle.run_model.specs.Worlds.{Connected, Labels, Refused}
use Rattle.bucket_kinds.specs.Device.{Device}
use Rattle.filter_chain.specs.declared.host.Host.{Host}
use Rattle.filter_chain.specs.Hosting.{Ghosts, Stored}
use Rattle.filter_chain.specs.HostViews.{HostView, Answers}
use Rattle.http_message.specs.Clocks.{Said}
use Rattle.http_message.specs.declared.reply.Method.{Method}
use Rattle.http_message.specs.declared.site.Site.{Site}
use Rattle.http_front.specs.declared.fault.FrontKind.{FrontKind}
use Rattle.http_front.specs.declared.fault.FrontKind.TheVariants as kind
use Rattle.http_front.specs.declared.handler.RequestOutcome.{RequestOutcome}
use Rattle.http_front.specs.Driven.{LacksFor, OnlyEventsOf, IsAlive, Refines, Handles}
use Rattle.http_front.specs.Requests.{RunsCall}
use Rattle.http_front.specs.Turns.{AnswersRequestsRead, IsCut, MemoryLacked, LacksNames, Responses}
use Rattle.http_front.specs.declared.fault.FrontFault.{FrontFault}
use Rattle.http_front.specs.declared.fault.Served.{Served}
use Rattle.http_front.specs.declared.running.CallEnd.{CallEnd}

-- what an opening lacks: names, or else memory
abbrev pub kind_of : Refusal → FrontKind
kind_of refusal.NamesSpent = kind.NamesSpent
kind_of r = kind.NoMemory

-- how serving ends. left: the connection, where it could not be closed
abbrev pub outcome_of : Result Served FrontKind → Option ℕ → Result Served FrontFault
outcome_of (Ok s) None = Ok s
outcome_of (Ok s) (Some n) = Err (record { kind = kind.NoMemory; left = Some n })
outcome_of (Err k) left = Err (record { kind = k; left = left })

-- by the kind of the fault alone
abbrev pub kind_result : Result Served FrontFault → Result Served FrontKind
kind_result (Ok s) = Ok s
kind_result (Err e) = Err e.kind

module _ (budget : ℕ) (chain : List Program) (number : ℕ) where
  -- A connection of this number is opened, and its `open` handlers run, however they end.
  pub record IsConnOpened (old new : HostView) : Type 0 where
    pub mid : HostView
    pub how : CallEnd
    pub acts : Answers budget chain 0 event.Open old (Connected number) mid
    pub runs : RunsCall budget chain number mid how new

  -- It is closed; or it is left, since memory is lacking.
  abbrev pub IsClosed : Option ℕ → HostView → HostView → Type 0
  IsClosed None old new = (labels : List (List ℕ)) × Answers budget chain number event.Close old (Labels labels) new
  IsClosed (Some n) old new = (n ≡ number) × Answers budget chain number event.Close old (Refused refusal.NoMemory) new

  -- It is closed, or it was not there; there is none of this number then. Or it is left, since memory is lacking.
  abbrev pub ClosesTurns : Bool → HostView → HostView → Type 0
  ClosesTurns true old new = (IsClosed None old new ⊎ Answers budget chain number event.Close old (Refused refusal.NoSuchConn) new) × (new.world.conns number ≡ None)
  ClosesTurns false old new = Answers budget chain number event.Close old (Refused refusal.NoMemory) new

module _ {H K : Type 0} (site : Site) (handles : H → Method → List ℕ → RequestOutcome → H → Type 0) (tells : K → Said → K → Type 0) where
  -- What is written of the responses to a stream, where serving it ends by this kind of fault. unread: what the reader has left. Only where the
  -- writer failed, or had no memory, the last response is cut. Where the reader failed, or gave no end, all whole requests that were read are answered. Where names
  -- or memory are lacking, all before the one at hand are: names only for a request that nothing refuses and whose path has a file. All responses
  -- are written, where no more than the close lacks memory.
  abbrev pub FallsBy : (H → Method → List ℕ → FrontKind → H → Type 0) → FrontKind → Option ℕ → H → K → List ℕ → List ℕ → Option (List ℕ) → H → K → Type 0
  FallsBy lacks kind.Write left old before stream text unread new after = IsCut site handles tells old before stream text new after
  FallsBy lacks kind.Read left old before stream text unread new after = AnswersRequestsRead site handles tells old before stream text unread new after
  FallsBy lacks kind.TooManyReads left old before stream text unread new after = AnswersRequestsRead site handles tells old before stream text unread new after
  FallsBy lacks kind.NamesSpent left old before stream text unread new after = LacksNames site handles tells lacks old before stream text unread new
  FallsBy lacks kind.NoMemory left old before stream text unread new after =
      MemoryLacked site handles tells old before stream text unread new after
      ⊎ (¬ (left ≡ None) × (n : ℕ) × Responses site handles tells old before stream text n new after)

module _ {F K R : Type 0} {g : Ghosts R Stored} (device : F → Device) (tells : K → Said → K → Type 0) (site : Site) where
  -- A connection is opened, its requests are served so, and it is closed, or left. old, opened, served, new: the host before and after each. However
  -- serving ends, nothing happens to the host between but events of this connection.
  pub record Connects (old new : Host F R g) (left : Option ℕ) (serves : ℕ → Host F R g → Host F R g → Type 0) : Type 0 where
    pub number : ℕ
    pub opened : Host F R g
    pub served : Host F R g
    pub opens : Refines device old opened (λ b c s t. IsConnOpened b c number s t)
    pub done : serves number opened served
    pub alive : IsAlive device served
    pub beside : OnlyEventsOf device opened number served
    pub closes : Refines device served new (λ b c s t. IsClosed b c number left s t)

  -- Whatever the reader gives, a connection is opened and closed, or left; or none is opened.
  abbrev pub Visits : Host F R g → Result Served FrontFault → Host F R g → Type 0
  Visits old (Ok s) new = Connects old new None (λ number a z. Unit {0})
  Visits old (Err e) new =
      ((why : Refusal) × Refines device old new (λ b c s t. Answers b c 0 event.Open s (Refused why) t)) ⊎ Connects old new e.left (λ number a z. Unit {0})

  -- All of the stream is served, and the responses are written.
  pub record ServesAll (old : Host F R g) (before : K) (stream : List ℕ) (count : ℕ) (was is : Option (List ℕ)) (new : Host F R g) (after : K) : Type 0 where
    pub text : List ℕ
    pub connects : Connects old new None (λ number a z. Responses site (λ o. Handles device o number) tells a before stream text count z after)
    pub written : Appends was is text

  -- The front of the responses is written, as far as the kind of the fault tells.
  pub record ServesFront (old : Host F R g) (before : K) (stream : List ℕ) (e : FrontFault) (unread was is : Option (List ℕ)) (new : Host F R g) (after : K) : Type 0 where
    pub text : List ℕ
    pub connects : Connects old new e.left (λ number a z. FallsBy site (λ o. Handles device o number) tells
        (λ o method file. LacksFor device o number) e.kind e.left a before stream text unread z after)
    pub written : Appends was is text

  -- No connection is opened, and nothing is read or written. The clock is not asked.
  pub record IsUnopened (old : Host F R g) (before : K) (stream : List ℕ) (e : FrontFault) (unread was is : Option (List ℕ)) (new : Host F R g) (after : K) : Type 0 where
    pub why : Refusal
    pub kind : e.kind ≡ kind_of why
    pub left : e.left ≡ None
    pub refused : Refines device old new (λ b c s t. Answers b c 0 event.Open s (Refused why) t)
    pub leaves : unread ≡ Some stream
    pub written : Appends was is []
    pub still : after ≡ before

  -- unread: what the reader has left
  abbrev pub ServingFails : Host F R g → K → List ℕ → FrontFault → Option (List ℕ) → Option (List ℕ) → Option (List ℕ) → Host F R g → K → Type 0
  ServingFails old before stream e unread was is new after =
      IsUnopened old before stream e unread was is new after ⊎ ServesFront old before stream e unread was is new after
