-- A request on the host of chains, where nothing happens but its own events.
use Rattle.std.specs.Prelude.{ℕ, List}
use Rattle.module_code.specs.Program.{Program}
use Rattle.filter_chain.specs.Running.{StepsToEnd}
use Rattle.filter_chain.specs.HostViews.{HostView, Answers}
use Rattle.http_message.specs.declared.reply.Method.{Method}
unfoldable pub use Rattle.http_front.specs.RequestEvents.{brigades_from, brigades_of}
pub use Rattle.http_front.specs.RequestEvents.{piece_bytes, last_brigade, brigades_for, lack_of, ended_of, unopened, IfSucceeded, IsOfRequest}
use Rattle.http_front.specs.RequestEvents as by
use Rattle.http_front.specs.declared.fault.FrontKind.{FrontKind}
use Rattle.http_front.specs.declared.handler.RequestOutcome.{RequestOutcome}
use Rattle.http_front.specs.declared.running.CallEnd.{CallEnd}

-- the events of the connection of this number
module _ (budget : ℕ) (chain : List Program) (number : ℕ) where
  abbrev pub RunsCall : HostView → CallEnd → HostView → Type 0
  RunsCall = by.RunsCall (Answers budget chain number) (StepsToEnd budget chain number)

  abbrev pub IsRefusedFor : FrontKind → HostView → HostView → Type 0
  IsRefusedFor = by.IsRefusedFor (Answers budget chain number) (StepsToEnd budget chain number)

  abbrev pub EndsRequest : HostView → HostView → Type 0
  EndsRequest = by.EndsRequest (Answers budget chain number) (StepsToEnd budget chain number)

  abbrev pub TakesOutput : HostView → RequestOutcome → HostView → Type 0
  TakesOutput = by.TakesOutput (Answers budget chain number) (StepsToEnd budget chain number)

  abbrev pub Finishes : CallEnd → HostView → RequestOutcome → HostView → Type 0
  Finishes = by.Finishes (Answers budget chain number) (StepsToEnd budget chain number)

  abbrev pub ComesOf : Method → List ℕ → HostView → RequestOutcome → HostView → Type 0
  ComesOf = by.ComesOf (Answers budget chain number) (StepsToEnd budget chain number)
