use Rattle.std.proofs.Common.{sym}
use Rattle.pool_tree.proofs.Refilled.{last_found}
use Rattle.pool_tree.proofs.payloads.newest_equal.Goals as goal

pub returns-then-eq : goal.returns-then-eq
returns-then-eq g c =
    last_found (λ other. g.T.PartialEq.eq other c.args.item.now) c.args.items.now c.loop-index.index c.index-items-index.result
    c.loop-index-test.true c.loop-index.auto.index c.index-items-index.is (sym c.if-eq.ensures) c.loop-index.invariant
