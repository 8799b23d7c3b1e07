-- By what the call that began reads as.
use Rattle.std.proofs.Common.{[]}
use Rattle.brigade_ops.specs.Store.{lists, next_name}
use Rattle.module_run.proofs.MoreCalls.{amid, begun_call, begun_pc}
use Rattle.module_run.proofs.conn.Filter.begin_in.Goals as goal

pub returns-in-Ok-clause-call : goal.returns-in-Ok-clause-call
returns-in-Ok-clause-call g c waits =
    begun_call (lists c.args.store.now) (lists c.begin_call.new.store) (next_name c.args.store.now) (next_name c.begin_call.new.store)
    (amid waits) c.args.self.now.instance c.args.self.now.call c.begin_call.new.call c.args.pc (c.in-Ok.ensures.seen (amid waits))

pub returns-in-Ok-clause-pc : goal.returns-in-Ok-clause-pc
returns-in-Ok-clause-pc g c =
    begun_pc (lists c.args.store.now) (lists c.begin_call.new.store) (next_name c.args.store.now) (next_name c.begin_call.new.store)
    (amid []) c.args.self.now.instance c.args.self.now.call c.begin_call.new.call c.args.pc (c.in-Ok.ensures.seen (amid []))
