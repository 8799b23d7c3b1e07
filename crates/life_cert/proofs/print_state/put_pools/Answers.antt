use Rattle.std.proofs.Common.{arith}
use Rattle.life_cert.proofs.Writing.{each_begins, each_ends, each_fault, each_written}
use Rattle.life_state.specs.Seen.{seen}
use Rattle.life_cert.specs.StateText.{pool_text}
use Rattle.life_cert.proofs.print_state.put_pools.Goals as goal

pub loop-q-init : goal.loop-q-init
loop-q-init g c = each_begins _ (seen c.args.state.now).pool_count (λ q. pool_text q ((seen c.args.state.now).pools q))

pub returns-in_err-put_pool : goal.returns-in_err-put_pool
returns-in_err-put_pool g c =
    each_fault _ _ _ (seen c.args.state.now).pool_count c.loop-q.q (λ q. pool_text q ((seen c.args.state.now).pools q)) _ c.loop-q.invariant (omega arith) c.from_residual.ensures.0
    (rw c.pool.ensures at c.in_err-put_pool.ensures)

pub loop-q-preserved : goal.loop-q-preserved
loop-q-preserved g c =
    each_written _ _ _ (seen c.args.state.now).pool_count c.loop-q.q (λ q. pool_text q ((seen c.args.state.now).pools q)) c.loop-q.invariant (omega arith)
    (rw c.pool.ensures at c.in_ok-put_pool.ensures)

pub returns : goal.returns
returns g c = each_ends _ _ (seen c.args.state.now).pool_count c.loop-q.q (λ q. pool_text q ((seen c.args.state.now).pools q)) c.loop-q.invariant (omega arith)
