-- The clear, then what was sent.
use Rattle.std.proofs.Common.{false, ap, ◌∙◌}
use Rattle.life_state.specs.States.{State}
use Rattle.life_state.specs.Rules.{at_end_of_request}
use Rattle.life_state.proofs.handlers.at_end_of_request.Goals as goal

pub returns : goal.returns
unfolding at_end_of_request
returns c = c.set_sent.ensures ∙ ap (λ (s : State). record s { sent = false }) c.cleared-next.ensures
