-- What is in the variable tells whether anything was made in it.
use Rattle.std.proofs.Common.{sym, ap, ◌∙◌}
use Rattle.run_model.specs.declared.bucket.PoolVar.TheVariants as poolvar
use Rattle.run_model.specs.Steps.{is_null}
use Rattle.brigade_ops.specs.Store.{lists, next_name}
use Rattle.interp_state.specs.declared.machine.Slot.TheVariants as slot
use Rattle.interp_state.specs.Seen.{seen_over}
use Rattle.interp_state.proofs.Asked.{null_brigade, null_pool}
use Rattle.interp_state.proofs.asks.is_null.Goals as goal

pub returns-in-Null : goal.returns-in-Null
returns-in-Null g c =
    λ view call.
    null_pool (lists c.args.store.now) (next_name c.args.store.now) view c.args.instance.now call c.in-Pool.q poolvar.Null (sym c.variable.ensures ∙ c.in-Null.is)
    ∙ ap (is_null (seen_over (lists c.args.store.now) (next_name c.args.store.now) view c.args.instance.now call)) (sym c.in-Pool.is)

pub returns-in_default : goal.returns-in_default
returns-in_default g c =
    λ view call.
    null_pool (lists c.args.store.now) (next_name c.args.store.now) view c.args.instance.now call c.in-Pool.q (poolvar.Made c.in_default.field-0) (sym c.variable.ensures ∙ c.in_default.is)
    ∙ ap (is_null (seen_over (lists c.args.store.now) (next_name c.args.store.now) view c.args.instance.now call)) (sym c.in-Pool.is)

pub returns-in-Null-matches : goal.returns-in-Null-matches
returns-in-Null-matches g c =
    λ view call.
    null_brigade (lists c.args.store.now) (next_name c.args.store.now) view c.args.instance.now call c.in-Brigade.b slot.Null (sym c.slot.ensures ∙ c.in-Null-matches.is)
    ∙ ap (is_null (seen_over (lists c.args.store.now) (next_name c.args.store.now) view c.args.instance.now call)) (sym c.in-Brigade.is)

pub returns-in_default-matches : goal.returns-in_default-matches
returns-in_default-matches g c =
    λ view call.
    null_brigade (lists c.args.store.now) (next_name c.args.store.now) view c.args.instance.now call c.in-Brigade.b
    (slot.Made c.in_default-matches.field-0 c.in_default-matches.field-1 c.in_default-matches.field-2) (sym c.slot.ensures ∙ c.in_default-matches.is)
    ∙ ap (is_null (seen_over (lists c.args.store.now) (next_name c.args.store.now) view c.args.instance.now call)) (sym c.in-Brigade.is)
