-- Beyond the last variable, and above the connection's pool, there is nothing.
use Rattle.std.proofs.Common.{false, sym, arith}
use Rattle.module_code.specs.declared.instr.PoolRef.TheVariants as pool
use Rattle.life_state.specs.PoolOrder.{is_under}
use Rattle.life_state.proofs.Sets.{pools_are, everywhere}
use Rattle.life_state.proofs.UnderLaws.{conn_is_under, past_is_under}
use Rattle.life_state.proofs.clears.pools_under.Goals as goal

pub returns : goal.returns
returns c =
    let p = c.args.code.now in
    let top = c.args.top in
    pools_are _ (is_under p top) (sym (conn_is_under p top c.requires.clearable)) c.is_under-2.ensures
    (everywhere 8 false c.loop-q.own (λ i. is_under p top (pool.Own i)) c.loop-q.invariant.0 (λ i below. c.loop-q.invariant.1 i (omega arith))
    (λ i h. sym (past_is_under p top i c.requires.clearable h (omega (arith, c.requires.few)))))
