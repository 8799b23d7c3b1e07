-- Each word that is counted is gone past.
use Rattle.std.proofs.Common.{codes, sym, ◌∙◌, arith}
use Rattle.life_cert.specs.StateFromText.{pool_past}
use Rattle.life_cert.proofs.Turns.{counted_begins, counted_ends, counted_more, none_left, none_there}
use Rattle.life_cert.proofs.state_text.count_pools.Goals as goal

pub loop-count-init : goal.loop-count-init
loop-count-init c = counted_begins (codes " p") pool_past 8 c.args.unread.now.bytes.now

pub loop-count-preserved : goal.loop-count-preserved
loop-count-preserved c = counted_more (codes " p") pool_past 8 c.args.unread.now.bytes.now c.loop-count.unread.bytes.now _ c.loop-count.count c.loop-count.invariant c.loop-count-test.true
    (sym c.has.ensures ∙ c.if-not-has.false) c.read_pool.ensures.rest

pub returns-then-not-has-clause-value : goal.returns-then-not-has-clause-value
returns-then-not-has-clause-value c = (counted_ends (codes " p") pool_past 8 c.args.unread.now.bytes.now c.loop-count.unread.bytes.now c.loop-count.count c.loop-count.invariant
    (none_there (codes " p") pool_past _ c.loop-count.unread.bytes.now (sym c.has.ensures ∙ c.if-not-has.true))).0

pub returns-then-not-has-clause-rest : goal.returns-then-not-has-clause-rest
returns-then-not-has-clause-rest c = (counted_ends (codes " p") pool_past 8 c.args.unread.now.bytes.now c.loop-count.unread.bytes.now c.loop-count.count c.loop-count.invariant
    (none_there (codes " p") pool_past _ c.loop-count.unread.bytes.now (sym c.has.ensures ∙ c.if-not-has.true))).1

pub returns-clause-value : goal.returns-clause-value
returns-clause-value c =
    let all = (counted_ends (codes " p") pool_past 8 c.args.unread.now.bytes.now c.loop-count.unread.bytes.now c.loop-count.count c.loop-count.invariant
    (none_left (codes " p") pool_past 8 c.loop-count.count c.loop-count.unread.bytes.now (omega arith))).0 in
    omega (arith, all)

pub returns-clause-rest : goal.returns-clause-rest
returns-clause-rest c = (counted_ends (codes " p") pool_past 8 c.args.unread.now.bytes.now c.loop-count.unread.bytes.now c.loop-count.count c.loop-count.invariant
    (none_left (codes " p") pool_past 8 c.loop-count.count c.loop-count.unread.bytes.now (omega arith))).1
