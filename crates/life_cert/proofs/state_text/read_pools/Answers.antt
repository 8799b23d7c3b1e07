-- What is read so far is told.
use Rattle.std.proofs.Common.{◌∙◌, ap, arith}
use Rattle.life_state.specs.Seen.{seen}
use Rattle.life_state.specs.States.{set_pool}
use Rattle.life_cert.specs.StateFromText.{pool_past, told_pool}
use Rattle.life_cert.proofs.Turns.{folded_begins, folded_ends, folded_more}
use Rattle.life_cert.proofs.state_text.read_pools.Goals as goal

pub loop-q-init : goal.loop-q-init
loop-q-init c = folded_begins told_pool (λ q. pool_past) (seen c.args.state.now).pool_count c.args.words.bytes.now (seen c.args.state.now)

pub loop-q-preserved : goal.loop-q-preserved
loop-q-preserved c = folded_more told_pool (λ q. pool_past) (seen c.args.state.now).pool_count c.args.words.bytes.now (seen c.args.state.now) c.loop-q.unread.bytes.now (seen c.loop-q.state)
    c.loop-q.q _ _ c.loop-q.invariant (omega arith) (c.set_pool.ensures ∙ ap (λ v. set_pool c.loop-q.q v (seen c.loop-q.state)) c.read_pool-pool.ensures.value) c.read_pool-pool.ensures.rest

pub returns : goal.returns
returns c = (folded_ends told_pool (λ q. pool_past) (seen c.args.state.now).pool_count c.args.words.bytes.now (seen c.args.state.now) c.loop-q.unread.bytes.now
    (seen c.loop-q.state) c.loop-q.q c.loop-q.invariant (omega arith)).0
