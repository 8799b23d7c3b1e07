-- So far a slice of the request is made, and nothing happened but events of this connection.
use Rattle.std.proofs.Common.{Ok}
use Rattle.filter_chain.specs.declared.host.Host.{Host}
use Rattle.http_front.specs.Among.{ComesIn, MakesSlice, calls_after}
use Rattle.http_front.specs.Driven.{IsAlive, OnlyEventsOf}
use Rattle.http_front.proofs.slicing.handle_request.Given as goal

abbrev pub invariant-loop-slice : goal.invariant-loop-slice
invariant-loop-slice g l = record {
  alive : IsAlive g.F.Files.device l.host;
  made : MakesSlice g.F.Files.device l.number (λ way b c. ComesIn way b c l.number l.fn.method l.name) l.fn.host (Ok l.slice) l.host;
  beside : (from : Host g.row.F.Denot g.row.R.Denot g.R.Rings) → OnlyEventsOf g.F.Files.device from l.number l.fn.host → OnlyEventsOf g.F.Files.device from l.number l.host;
}

abbrev pub decreases-loop-slice : goal.decreases-loop-slice
decreases-loop-slice g l = calls_after l.slice
