-- By the rings that are left.
use Rattle.brigade_ops.specs.Store.{lists, brigade_of, pool_of, next_name}
use Rattle.interp_calls.proofs.Returns.{held_returned, seen_returned}
use Rattle.interp_calls.proofs.calls.end_call.Goals as goal

pub returns-clause-seen : goal.returns-clause-seen
returns-clause-seen g c view other =
    seen_returned (lists c.args.store.now)
    (lists c.end_loose.new.self) c.args.instance.now c.set_slot.new.self c.args.call.now c.end.new.self c.requires.held.loose c.set_slot.ensures.slots c.end_loose.ensures.out
    (next_name c.args.store.now) (next_name c.end_loose.new.self) view c.end_loose.ensures.next c.set_slot.ensures.rest c.requires.none c.requires.runs c.end.ensures.name c.end.ensures.cursors
    c.end.ensures.buffer c.end.ensures.pc other

pub returns-clause-held : goal.returns-clause-held
returns-clause-held g c =
    held_returned (lists c.args.store.now)
    (lists c.end_loose.new.self) c.args.instance.now c.set_slot.new.self c.args.call.now c.end.new.self c.requires.held.loose c.set_slot.ensures.slots c.end_loose.ensures.out
    (brigade_of c.args.store.now) (brigade_of c.end_loose.new.self) (pool_of c.args.store.now) (pool_of c.end_loose.new.self) (next_name c.args.store.now)
    (next_name c.end_loose.new.self) c.end_loose.ensures.next c.end_loose.ensures.pools c.requires.free c.end.ensures.name c.end.ensures.cursors c.requires.held
