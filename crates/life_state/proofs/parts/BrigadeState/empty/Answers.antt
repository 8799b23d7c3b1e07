-- No homes.
use Rattle.std.proofs.Common.{ap, ◌∙◌}
use Rattle.life_state.specs.States.{holds}
use Rattle.life_state.specs.declared.parts.Contents.TheVariants.{Empty}
use Rattle.life_state.proofs.parts.BrigadeState.empty.Goals as goal

pub returns : goal.returns
returns c = c.holding.ensures ∙ ap (holds Empty) c.none.ensures
