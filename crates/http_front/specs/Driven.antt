-- How a host of chains handles a request, by the devices of its files.
use Rattle.std.specs.Prelude.{◌≡◌, ◌≢◌, ◌≤◌, ◌+◌, ℕ, List, [], ◌∷◌, ◌⊎◌, Some}
use Rattle.module_code.specs.Program.{Program}
use Rattle.run_model.specs.declared.event.Event.{Event}
use Rattle.run_model.specs.declared.event.Event.TheVariants as event
use Rattle.run_model.specs.Chains.{Connection}
use Rattle.run_model.specs.Worlds.{World, Answer}
use Rattle.bucket_kinds.specs.Device.{Device}
use Rattle.filter_chain.specs.declared.host.Host.{Host}
use Rattle.filter_chain.specs.Hosting.{Ghosts, Stored, IsHosting, files_of}
use Rattle.filter_chain.specs.HostViews.{HostView, Answers}
pub use Rattle.filter_chain.specs.Led.{Transition, IsAlive, Refines, RefinesFrom}
use Rattle.http_message.specs.declared.reply.Method.{Method}
use Rattle.http_front.specs.declared.fault.FrontKind.{FrontKind}
use Rattle.http_front.specs.declared.fault.FrontKind.TheVariants.{NoMemory}
use Rattle.http_front.specs.declared.handler.RequestOutcome.{RequestOutcome}
use Rattle.http_front.specs.Requests.{ComesOf, IsRefusedFor}

-- The host stands for some world, and the connection of this number is there.
abbrev pub HasConn : {F R : Type 0} {g : Ghosts R Stored} → (F → Device) → Host F R g → ℕ → Type 0
HasConn device host number = (w : World) × IsHosting (device (files_of host)) host w × (c : Connection) × (w.conns number ≡ Some c)

-- A request for a file on the connection of this number comes to this outcome.
abbrev pub Handles : {F R : Type 0} {g : Ghosts R Stored} → (F → Device) → Host F R g → ℕ → Method → List ℕ → RequestOutcome → Host F R g → Type 0
Handles device old number method file o new = Refines device old new (λ budget chain s t. ComesOf budget chain number method file s o t)

-- an event of a connection that is neither its opening nor its close
abbrev pub IsOfConn : Event → Type 0
IsOfConn event.Begin = Unit {0}
IsOfConn (event.OpenFile name) = Unit {0}
IsOfConn (event.Bring pieces) = Unit {0}
IsOfConn event.Step = Unit {0}
IsOfConn event.End = Unit {0}
IsOfConn event.TakeOutput = Unit {0}
IsOfConn e = ⊥

-- These events of the connection of this number, with their answers, lead from one scene to another. The last stands first.
unfoldable pub GoesBy : ℕ → List Program → ℕ → List (Event × Answer) → HostView → HostView → Type 0
GoesBy budget chain number [] old new = new ≡ old
GoesBy budget chain number (x ∷ xs) old new = (mid : HostView) × GoesBy budget chain number xs old mid × IsOfConn x.0 × Answers budget chain number x.0 mid x.1 new

-- Nothing happened to the host but events of this connection, and it was neither opened nor closed.
unfoldable pub OnlyEventsOf : {F R : Type 0} {g : Ghosts R Stored} → (F → Device) → Host F R g → ℕ → Host F R g → Type 0
OnlyEventsOf device old number new = Refines device old new (λ b c s t. (events : List (Event × Answer)) × GoesBy b c number events s t)

-- how many of these events are steps
abbrev pub is_step : Event → ℕ
is_step event.Step = 1
is_step e = 0

unfoldable pub steps_in : List (Event × Answer) → ℕ
steps_in [] = 0
steps_in (x ∷ xs) = is_step x.0 + steps_in xs

-- Nothing happened to the host but events of this connection, neither its opening nor its close, and no more of them are steps than this.
unfoldable pub StepsAtMost : {F R : Type 0} {g : Ghosts R Stored} → (F → Device) → Host F R g → ℕ → ℕ → Host F R g → Type 0
StepsAtMost device old number n new = Refines device old new (λ b c s t. (events : List (Event × Answer)) × GoesBy b c number events s t × (steps_in events ≤ n))

-- These events, each of the connection of its number, with their answers, lead from one scene to another, and none is of this connection: openings and
-- closes of others among them. (An opening has the number 0.) The last stands first.
unfoldable pub GoesByOthers : ℕ → List Program → ℕ → List (ℕ × Event × Answer) → HostView → HostView → Type 0
GoesByOthers budget chain number [] old new = new ≡ old
GoesByOthers budget chain number (x ∷ xs) old new =
    (mid : HostView) × GoesByOthers budget chain number xs old mid × (number ≢ x.0) × Answers budget chain x.0 x.1 mid x.2 new

-- Nothing happened to the host but events of other connections.
unfoldable pub NoEventsOf : {F R : Type 0} {g : Ghosts R Stored} → (F → Device) → Host F R g → ℕ → Host F R g → Type 0
NoEventsOf device old number new = Refines device old new (λ b c s t. (events : List (ℕ × Event × Answer)) × GoesByOthers b c number events s t)

-- Events of this connection happened, and then one of a request was refused, for want of this. Or memory was lacking for the pieces of a brigade, or for
-- the name of a file that is opened later.
pub record Lacks (budget : ℕ) (chain : List Program) (number : ℕ) (e : FrontKind) (old new : HostView) : Type 0 where
  pub events : List (Event × Answer)
  pub mid : HostView
  pub before : GoesBy budget chain number events old mid
  pub last : IsRefusedFor budget chain number e mid new ⊎ ((e ≡ NoMemory) × (new ≡ mid))

-- A request on this connection was left without an outcome, for want of this.
unfoldable pub LacksFor : {F R : Type 0} {g : Ghosts R Stored} → (F → Device) → Host F R g → ℕ → FrontKind → Host F R g → Type 0
LacksFor device old number e new = Refines device old new (λ b c s t. Lacks b c number e s t)
