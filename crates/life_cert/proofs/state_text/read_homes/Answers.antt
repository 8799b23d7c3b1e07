-- Home by home.
use Rattle.std.proofs.Common.{◌∙◌, arith}
use Rattle.life_cert.proofs.HomesRead.{homes_said, own_read_on, owns_begin, past_no_home, past_some_home}
use Rattle.life_cert.proofs.state_text.read_homes.Goals as goal

pub loop-q-init : goal.loop-q-init
loop-q-init c = owns_begin c.args.unread.now.bytes.now c.take_next-call.result c.take_next-req.result c.take_next-call.new.self.bytes.now c.take_next-req.new.self.bytes.now
    c.take_next-call.ensures.found c.take_next-call.ensures.rest c.take_next-req.ensures.found c.take_next-req.ensures.rest

pub loop-q-preserved : goal.loop-q-preserved
loop-q-preserved c =
    rw c.from.ensures (own_read_on c.args.unread.now.bytes.now c.take_next-call.result c.take_next-req.result c.loop-q.any c.loop-q.own c.loop-q.unread.bytes.now c.loop-q.q c.take_next-found.result
    c.take_next-found.new.self.bytes.now c.loop-q.invariant (omega arith) c.take_next-found.ensures.found c.take_next-found.ensures.rest)

pub returns-then-none-clause-value : goal.returns-then-none-clause-value
returns-then-none-clause-value c = homes_said c.args.unread.now.bytes.now c.take_next-call.result c.take_next-req.result c.loop-q.any c.loop-q.own c.loop-q.unread.bytes.now c.loop-q.q
    c.take_next-dead.result c.take_next-dead.new.self.bytes.now c.loop-q.invariant (omega arith) c.take_next-dead.ensures.found c.take_next-dead.ensures.rest

pub returns-then-none-clause-rest : goal.returns-then-none-clause-rest
returns-then-none-clause-rest c = c.skip.ensures ∙ past_no_home c.args.unread.now.bytes.now c.take_next-call.result c.take_next-req.result c.loop-q.any c.loop-q.own c.loop-q.unread.bytes.now
    c.loop-q.q c.take_next-dead.result c.take_next-dead.new.self.bytes.now c.loop-q.invariant (omega arith) c.take_next-dead.ensures.found c.take_next-dead.ensures.rest c.if-none.true

pub returns-else-none-clause-value : goal.returns-else-none-clause-value
returns-else-none-clause-value c = homes_said c.args.unread.now.bytes.now c.take_next-call.result c.take_next-req.result c.loop-q.any c.loop-q.own c.loop-q.unread.bytes.now c.loop-q.q
    c.take_next-dead.result c.take_next-dead.new.self.bytes.now c.loop-q.invariant (omega arith) c.take_next-dead.ensures.found c.take_next-dead.ensures.rest

pub returns-else-none-clause-rest : goal.returns-else-none-clause-rest
returns-else-none-clause-rest c = past_some_home c.args.unread.now.bytes.now c.take_next-call.result c.take_next-req.result c.loop-q.any c.loop-q.own c.loop-q.unread.bytes.now c.loop-q.q
    c.take_next-dead.result c.take_next-dead.new.self.bytes.now c.loop-q.invariant (omega arith) c.take_next-dead.ensures.found c.take_next-dead.ensures.rest c.if-none.false
