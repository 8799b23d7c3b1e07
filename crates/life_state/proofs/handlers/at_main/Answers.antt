-- The variable is written.
use Rattle.std.proofs.Common.{ap, ◌∙◌}
use Rattle.life_state.specs.declared.parts.Contents.TheVariants.{NoLateData}
use Rattle.life_state.specs.States.{Homes, BrigadeKnown, holds, set_brigade}
use Rattle.life_state.specs.Seen.{seen}
use Rattle.life_state.proofs.handlers.at_main.Goals as goal

pub returns : goal.returns
returns c = c.set_brigade.ensures ∙ ap (λ (v : BrigadeKnown). set_brigade 8 v (seen c.args.state.now)) (c.holding-brought.ensures ∙ ap (λ (h : Homes). holds NoLateData h) c.only_call.ensures)
