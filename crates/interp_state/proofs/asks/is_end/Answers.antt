-- What is in the cursor tells.
use Rattle.std.proofs.Common.{sym, ap, ◌∙◌}
use Rattle.interp_state.proofs.Standing.{ends, end_at}
use Rattle.interp_state.proofs.asks.is_end.Goals as goal

pub returns-in-End : goal.returns-in-End
returns-in-End g c = λ view. ap ends (sym c.in-End.is ∙ c.cursor.ensures) ∙ end_at c.args.store.now c.args.instance.now c.args.call.now c.args.c c.requires.held c.requires.stands view

pub returns-in-At : goal.returns-in-At
returns-in-At g c = λ view. ap ends (sym c.in-At.is ∙ c.cursor.ensures) ∙ end_at c.args.store.now c.args.instance.now c.args.call.now c.args.c c.requires.held c.requires.stands view

pub returns-in-Unset : goal.returns-in-Unset
returns-in-Unset g c = λ view. ap ends (sym c.in-Unset.is ∙ c.cursor.ensures) ∙ end_at c.args.store.now c.args.instance.now c.args.call.now c.args.c c.requires.held c.requires.stands view
