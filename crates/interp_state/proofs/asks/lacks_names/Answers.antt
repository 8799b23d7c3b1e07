-- The names of the store are spent, or those of the pools.
use Rattle.std.proofs.Common.{◌≡◌, ap, ◌∙◌}
use Rattle.run_model.specs.Steps.{is_spent, names_for, names_of, pool_names_for}
use Rattle.pool_tree.specs.Tree.{map_of}
use Rattle.brigade_ops.specs.Store.{lists, next_name}
use Rattle.interp_state.specs.ContextViews.{ContextView}
use Rattle.interp_state.specs.Context.{in_context}
use Rattle.interp_state.specs.Seen.{seen_over}
use Rattle.interp_state.proofs.Asked.{store_spent, pools_spent}
use Rattle.interp_state.proofs.Needed.{faultless_by, fits_by}
use Rattle.interp_state.proofs.asks.lacks_names.Goals as goal
use Rattle.interp_state.proofs.asks.lacks_names.Goals.{After-is_spent}

of_store : (g : _) (c : After-is_spent g) (view : ContextView)
    → c.is_spent.result ≡ is_spent (next_name c.args.store.now)
    (names_of (seen_over (lists c.args.store.now) (next_name c.args.store.now) (in_context c.args.context.now (map_of c.args.tree.now) view) c.args.instance.now c.args.call.now) c.args.instr)
of_store g c view =
    let k = next_name c.args.store.now in
    let over = in_context c.args.context.now (map_of c.args.tree.now) view in
    c.is_spent.ensures
    ∙ (ap (λ n. is_spent n c.names-names.result) c.next_name.ensures
    ∙ ap (is_spent k) (c.names-names.ensures over ∙ ap (names_for (seen_over (lists c.args.store.now) k over c.args.instance.now c.args.call.now)) c.effect_of-effect.ensures))

pub names-names-requires-clause-fit : goal.names-names-requires-clause-fit
names-names-requires-clause-fit g c = fits_by c.args.code.now c.args.instr c.effect_of-effect.result c.effect_of-effect.ensures c.requires.fit

pub names-names-requires-clause-faultless : goal.names-names-requires-clause-faultless
names-names-requires-clause-faultless g c =
    let view = c.requires.faultless.0 in
    (view, faultless_by c.args.code.now c.args.store.now view c.args.instance.now c.args.call.now c.args.instr c.effect_of-effect.result c.effect_of-effect.ensures c.requires.faultless.1)

pub returns-then-is_spent : goal.returns-then-is_spent
returns-then-is_spent g c view =
    store_spent (lists c.args.store.now) (next_name c.args.store.now) (in_context c.args.context.now (map_of c.args.tree.now) view) c.args.instance.now c.args.call.now c.args.instr c.is_spent.result
    (of_store g (goal.at.returns-then-is_spent g c).After-is_spent view) c.if-is_spent.true

pub returns-else-is_spent : goal.returns-else-is_spent
returns-else-is_spent g c view =
    pools_spent (lists c.args.store.now) (next_name c.args.store.now)
    (in_context c.args.context.now (map_of c.args.tree.now) view) c.args.instance.now c.args.call.now c.args.instr c.is_spent.result c.is_spent-else-is_spent.result
    (of_store g (goal.at.returns-else-is_spent g c).After-is_spent view) c.if-is_spent.false
    (c.is_spent-else-is_spent.ensures ∙ (ap (λ n. is_spent n c.pool_names.result) c.next_name-else-is_spent.ensures
    ∙ ap (is_spent (map_of c.args.tree.now).next) (c.pool_names.ensures ∙ ap pool_names_for c.effect_of-effect.ensures)))
