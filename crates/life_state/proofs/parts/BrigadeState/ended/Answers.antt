-- No homes are left.
use Rattle.std.proofs.Common.{ap}
use Rattle.life_state.specs.States.{Homes, ended_brigade}
use Rattle.life_state.specs.Seen.{seen_brigade}
use Rattle.life_state.proofs.parts.BrigadeState.ended.Goals as goal

pub returns : goal.returns
returns c = ap (λ (h : Homes). record (ended_brigade (seen_brigade c.args.self.now)) { homes = h }) c.none.ensures
