-- No homes.
use Rattle.std.proofs.Common.{ap}
use Rattle.life_state.specs.States.{Homes, never_made}
use Rattle.life_state.proofs.parts.BrigadeState.never_made.Goals as goal

pub returns : goal.returns
returns c = ap (λ (h : Homes). record never_made { homes = h }) c.none.ensures
