use Rattle.std.proofs.Common.{ap, ◌∙◌}
use Rattle.life_state.specs.Build.{with_fact}
use Rattle.life_state.proofs.state.State.add_fact.Goals as goal

pub returns : goal.returns
returns c = c.write_fact-2.ensures ∙ ap (with_fact c.args.d c.args.c) c.write_fact.ensures
