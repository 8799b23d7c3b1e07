-- Not null, or null alone.
use Rattle.std.proofs.Common.{◌||◌, ap, ◌∙◌}
use Rattle.life_state.specs.declared.parts.PoolState.{PoolState}
use Rattle.life_state.specs.States.{State, only_null, set_pool}
use Rattle.life_state.specs.Rules.{some_if, pool_not_null}
use Rattle.life_state.specs.Seen.{seen}
use Rattle.life_state.proofs.Picks.{edges_are}
use Rattle.life_state.proofs.state.State.jnull_pool.Goals as goal

pub returns : goal.returns
returns c =
    let s = seen c.args.self in
    edges_are _ _ _
    (c.some_if.ensures
    ∙ (ap (λ (t : State). some_if (c.pool-pool.result.gone || c.pool-pool.result.live) t) c.with_pool.ensures
    ∙ ap (λ (v : PoolState). some_if (v.gone || v.live) (set_pool c.args.q (pool_not_null v) s)) c.pool-pool.ensures))
    (c.some_if-2.ensures
    ∙ (ap (λ (t : State). some_if c.pool-pool.result.null t) c.with_pool-2.ensures
    ∙ ap (λ (v : PoolState). some_if v.null (set_pool c.args.q only_null s)) c.pool-pool.ensures))
