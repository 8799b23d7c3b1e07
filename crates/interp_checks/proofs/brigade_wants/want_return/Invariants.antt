-- No brigade so far keeps a stray bucket.
use Rattle.std.proofs.Common.{◌≡◌, ℕ, ◌<◌, false}
use Rattle.run_model.specs.Faults.{keeps_stray}
use Rattle.run_model.specs.Pools.{Pools}
use Rattle.run_model.specs.declared.payload.Payload.{Payload}
use Rattle.interp_state.specs.ContextViews.{ContextView}
use Rattle.interp_checks.specs.OnlyAsked.{OnlyAsked}
use Rattle.interp_state.specs.Context.{in_context}
use Rattle.interp_state.specs.Seen.{seen}
use Rattle.interp_checks.proofs.brigade_wants.want_return.Given as goal

abbrev pub invariant-loop-b : goal.invariant-loop-b
invariant-loop-b g l = record {
  none : (pools : Pools Payload) (view : ContextView) (k : ℕ) → k < l.b
      → keeps_stray (seen l.fn.store (in_context l.context pools view) l.instance l.call) ((seen l.fn.store (in_context l.context pools view) l.instance l.call).instance.brigades k) ≡ false;
  asked : OnlyAsked l.fn.store l.store;
}
