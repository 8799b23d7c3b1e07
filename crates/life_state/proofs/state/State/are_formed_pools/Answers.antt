-- One that fails decides, and none fails where the loop ends.
use Rattle.std.proofs.Common.{◌≡◌, Bool, ◌&&◌, ◌||◌, nat_lt, true, false, ap, below_more, sym, ◌∙◌, arith}
use Rattle.life_state.specs.declared.parts.PoolState.{PoolState}
use Rattle.life_state.specs.InForm.{is_formed_pool, is_null}
use Rattle.life_state.specs.Form.{some_pool}
use Rattle.life_state.specs.Seen.{seen}
use Rattle.life_state.proofs.Below.{all_below_holds, all_below_fails}
use Rattle.life_state.proofs.state.State.are_formed_pools.Goals as goal

pub loop-q-preserved : goal.loop-q-preserved
unfolding seen
loop-q-preserved c =
    let test : PoolState → Bool = λ v. some_pool v && (nat_lt c.loop-q.q c.args.self.now.pool_count || is_null v) in
    below_more (λ k. is_formed_pool (seen c.args.self.now) k ≡ true) c.loop-q.q c.loop-q.invariant (ap test (sym c.pool-pool.ensures) ∙ c.if-not-formed.false)

pub returns-then-not-formed : goal.returns-then-not-formed
unfolding seen
returns-then-not-formed c =
    let test : PoolState → Bool = λ v. some_pool v && (nat_lt c.loop-q.q c.args.self.now.pool_count || is_null v) in
    sym (all_below_fails 8 c.loop-q.q (is_formed_pool (seen c.args.self.now)) (omega arith) (ap test (sym c.pool-pool.ensures) ∙ c.if-not-formed.true))

pub returns : goal.returns
returns c = sym (all_below_holds 8 (is_formed_pool (seen c.args.self.now)) (λ k below. c.loop-q.invariant k (omega arith)))
