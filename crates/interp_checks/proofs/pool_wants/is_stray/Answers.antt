-- A pool that is not the instance's own is another filter's.
use Rattle.std.proofs.Common.{not, sym, ap, ◌∙◌}
use Rattle.run_model.specs.Faults.{is_stray}
use Rattle.interp_state.specs.Context.{in_context}
use Rattle.interp_state.specs.Seen.{seen_over}
use Rattle.interp_checks.proofs.pool_wants.is_stray.Goals as goal

pub returns-in-Pool : goal.returns-in-Pool
unfolding is_stray
returns-in-Pool c = λ rings next pools view call.
    let r = seen_over rings next (in_context c.args.context.now pools view) c.args.instance.now call in
    ap not (c.is_own.ensures rings next pools view call) ∙ ap (is_stray r) (sym c.in-Pool.is)
