-- The variable is written.
use Rattle.std.proofs.Common.{ap, ◌∙◌}
use Rattle.life_state.specs.States.{BrigadeKnown, set_brigade}
use Rattle.life_state.specs.Seen.{seen}
use Rattle.life_state.proofs.state.State.bcreate.Goals as goal

pub returns : goal.returns
returns c = c.with_brigade.ensures ∙ ap (λ (v : BrigadeKnown). set_brigade c.args.b v (seen c.args.self)) c.empty.ensures
