-- By the slot of what was brought.
use Rattle.std.proofs.Common.{◌≡◌, ◌∙◌, ℕ, Some, None, is_some, sym, ap, arith}
use Rattle.brigade_ops.specs.Store.{lists, brigade_of, pool_of, next_name}
use Rattle.interp_state.specs.Slots.{name_in, slot_at}
use Rattle.interp_state.proofs.Changes.{ring_here, ring_off}
use Rattle.module_run.proofs.EndsFirst.{held_off, named_first}
use Rattle.module_run.proofs.HeldStays.{held_stays}
use Rattle.module_run.proofs.conn.Filter.end_first.Goals as goal

pub end_loose-requires-clause-there : goal.end_loose-requires-clause-there
end_loose-requires-clause-there g c =
    let named : name_in (slot_at c.args.self.now.instance 8) ≡ Some c.in-Made.name = ap name_in (sym c.slot-brought.ensures ∙ c.in-Made.is) in
    ap is_some (c.end.ensures.out c.in-Made.name ∙ ring_off (lists c.args.store.now) c.args.self.now.call.name c.in-Made.name None (λ e. c.requires.held.loose 8 (named ∙ ap (λ (n : ℕ). Some n) e)))
    ∙ (c.requires.brought c.in-Made.name named).1

pub returns-in-Null-clause-others : goal.returns-in-Null-clause-others
returns-in-Null-clause-others g c n off other = c.end.ensures.out n ∙ ring_off (lists c.args.store.now) c.args.self.now.call.name n None off

pub returns-in-Null-clause-gone : goal.returns-in-Null-clause-gone
returns-in-Null-clause-gone g c = c.end.ensures.out c.args.self.now.call.name ∙ ring_here (lists c.args.store.now) c.args.self.now.call.name None

pub returns-in-Made-clause-others : goal.returns-in-Made-clause-others
returns-in-Made-clause-others g c n off other =
    let named : name_in (slot_at c.args.self.now.instance 8) ≡ Some c.in-Made.name = ap name_in (sym c.slot-brought.ensures ∙ c.in-Made.is) in
    c.end_loose.ensures.out n ∙ (ring_off (lists c.end.new.store) c.in-Made.name n None (λ e. other (named ∙ ap (λ (m : ℕ). Some m) (sym e)))
    ∙ (c.end.ensures.out n ∙ ring_off (lists c.args.store.now) c.args.self.now.call.name n None off))

pub returns-in-Made-clause-gone : goal.returns-in-Made-clause-gone
returns-in-Made-clause-gone g c =
    let named : name_in (slot_at c.args.self.now.instance 8) ≡ Some c.in-Made.name = ap name_in (sym c.slot-brought.ensures ∙ c.in-Made.is) in
    c.end_loose.ensures.out c.args.self.now.call.name
    ∙ (ring_off (lists c.end.new.store) c.in-Made.name c.args.self.now.call.name None (λ e. c.requires.held.loose 8 (named ∙ ap (λ (m : ℕ). Some m) (sym e)))
    ∙ (c.end.ensures.out c.args.self.now.call.name ∙ ring_here (lists c.args.store.now) c.args.self.now.call.name None))

pub returns-in-Made-clause-brought : goal.returns-in-Made-clause-brought
returns-in-Made-clause-brought g c m is =
    let named : name_in (slot_at c.args.self.now.instance 8) ≡ Some c.in-Made.name = ap name_in (sym c.slot-brought.ensures ∙ c.in-Made.is) in
    ap (lists c.end_loose.new.self) (named_first m c.in-Made.name (sym is ∙ named)) ∙ (c.end_loose.ensures.out c.in-Made.name ∙ ring_here (lists c.end.new.store) c.in-Made.name None)

pub returns-in-Made-clause-held : goal.returns-in-Made-clause-held
returns-in-Made-clause-held g c =
    let named : name_in (slot_at c.args.self.now.instance 8) ≡ Some c.in-Made.name = ap name_in (sym c.slot-brought.ensures ∙ c.in-Made.is) in
    held_stays (brigade_of c.end.new.store) (brigade_of c.end_loose.new.self) (lists c.end.new.store) (lists c.end_loose.new.self) (pool_of c.end.new.store) (pool_of c.end_loose.new.self)
    (next_name c.end.new.store) (next_name c.end_loose.new.self)
    c.end.new.self.instance c.end.new.self.call (let e = c.end_loose.ensures.next in omega (arith, e)) c.end_loose.ensures.pools c.end_loose.ensures.names
    (held_off (lists c.end.new.store)
    (lists c.end_loose.new.self) c.args.self.now.instance c.end.new.self.instance c.in-Made.name c.requires.held.apart named c.end.ensures.slots c.end_loose.ensures.out)
    (λ pos. absurd (let e = c.end.ensures.name in omega (arith, e, pos))) c.end.ensures.held
