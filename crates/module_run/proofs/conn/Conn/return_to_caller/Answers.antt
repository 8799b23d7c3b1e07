-- By the filter on top, the one before it, and what both are then.
use Rattle.std.proofs.Common.{◌≡◌, ◌∙◌, ◌<◌, ℕ, List, Some, length, refl, sym, ap, subst, arith, [], ◌∷◌, ◌++◌}
use Rattle.module_code.specs.Program.{Program}
use Rattle.module_code.specs.declared.instr.Instr.TheVariants as instr
use Rattle.run_model.specs.Chains.{module_at}
use Rattle.run_model.specs.Passing.{after_pass}
use Rattle.run_model.specs.Steps.{current}
use Rattle.module_run.specs.Conns.{filter_at, top_of}
use Rattle.module_run.proofs.Replaced.{Replaces, below_read, names_left, popped, popped_below, replaced}
use Rattle.module_run.proofs.Returning.{returning, wait_passes, wait_placed}
use Rattle.module_run.proofs.TopFilter.{filter_read, module_read, on_top_of, top_held, top_runs, top_within}
use Rattle.std.specs.Global.{Vec}
use Rattle.std.specs.Vec.{with_item}
use Rattle.bucket_kinds.specs.Device.{Device}
use Rattle.run_model.specs.declared.payload.Payload.{Payload}
use Rattle.pool_tree.specs.declared.tree.PoolTree.{PoolTree}
use Rattle.module_run.specs.declared.conn.Conn.{Conn}
use Rattle.module_run.specs.declared.conn.Filter.{Filter}
use Rattle.module_run.specs.Proceeding.{CanProceed}
use Rattle.brigade_ops.specs.Store.{lists}
use Rattle.pool_tree.specs.Tree.{map_of}
use Rattle.module_run.proofs.CallsLeave.{returned_ends, returned_leaves}
use Rattle.module_run.proofs.GivenBack.{GivesBack, with_calls}
use Rattle.module_run.proofs.conn.Conn.return_to_caller.Given.{Over}
use Rattle.module_run.proofs.conn.Conn.return_to_caller.Goals as goal

-- what was read of the filter on top
top_read : (g : Over) (c : goal.After-end-arg-1 g) → filter_at c.args.self.now (top_of c.args.self.now) ≡ Some c.index_mut.result.now
top_read g c =
    let p = c.requires.ready in
    let within = top_within c.args.modules.now (instr.Ret c.args.status) p.0 c.args.store.now p.1 c.args.self.now p.2.v p.2.top p.2.rest p.2.ready in
    let at = c.top-top.ensures in
    ap (filter_at c.args.self.now) (sym at) ∙ filter_read c.args.self.now c.top-top.result c.index_mut.result.now (omega (arith, within, at)) c.index_mut.ensures.value

pub end-requires-clause-held : goal.end-requires-clause-held
end-requires-clause-held g c = let p = c.requires.ready in
    top_held c.args.modules.now (instr.Ret c.args.status) p.0 c.args.store.now p.1 c.args.self.now p.2.v p.2.top p.2.rest p.2.ready c.index_mut.result.now (top_read g c)

pub end-requires-clause-runs : goal.end-requires-clause-runs
end-requires-clause-runs g c = let p = c.requires.ready in
    top_runs c.args.modules.now (instr.Ret c.args.status) p.0 c.args.store.now p.1 c.args.self.now p.2.v p.2.top p.2.rest p.2.ready c.index_mut.result.now (top_read g c)

-- the filter that is popped waits
pub index_mut-requires-2 : goal.index_mut-requires-2
index_mut-requires-2 g c =
    let s = c.requires.ready.2.ready.stands.left.stacked in
    let callers = popped c.args.self.now.callers.items c.pop.new.self.items c.pop.result c.unwrap-caller.result c.pop.ensures.items c.unwrap-caller.ensures in
    let low = popped_below c.args.modules.now c.args.self.now c.pop.new.self.items c.unwrap-caller.result s.called callers in
    let within = s.within in
    let many = s.many in
    let len = c.args.self.now.filters.ok.0 in
    omega (arith, low, within, many, len)

pub bounds-modules-caller : goal.bounds-modules-caller
bounds-modules-caller g c =
    let s = c.requires.ready.2.ready.stands.left.stacked in
    let callers = popped c.args.self.now.callers.items c.pop.new.self.items c.pop.result c.unwrap-caller.result c.pop.ensures.items c.unwrap-caller.ensures in
    let low = popped_below c.args.modules.now c.args.self.now c.pop.new.self.items c.unwrap-caller.result s.called callers in
    let within = s.within in
    omega (arith, low, within)

-- The call that waits stands at its pass.
module _ (g : Over) (c : goal.After-index-modules-caller g) where
  abbrev waiter : ℕ
  waiter = c.unwrap-caller.result

  abbrev those_left : List ℕ
  those_left = c.pop.new.self.items

  callers_were : c.args.self.now.callers.items ≡ those_left ++ waiter ∷ []
  callers_were = popped c.args.self.now.callers.items those_left c.pop.result waiter c.pop.ensures.items c.unwrap-caller.ensures

  waiter_low : waiter < top_of c.args.self.now
  waiter_low = popped_below c.args.modules.now c.args.self.now those_left waiter c.requires.ready.2.ready.stands.left.stacked.called callers_were

  waiter_read : filter_at c.args.self.now waiter ≡ Some c.index_mut-2.result.now
  waiter_read =
      let p = c.requires.ready in
      let within = top_within c.args.modules.now (instr.Ret c.args.status) p.0 c.args.store.now p.1 c.args.self.now p.2.v p.2.top p.2.rest p.2.ready in
      below_read c.args.self.now c.top-top.result waiter c.end.new.self c.index_mut-2.result.now within c.top-top.ensures waiter_low c.index_mut-2.ensures.value

  waiter_module : module_at c.args.modules.now waiter ≡ c.index-modules-caller.result
  waiter_module = module_read c.args.modules.now waiter c.index-modules-caller.result
      (let low = waiter_low in let within = c.requires.ready.2.ready.stands.left.stacked.within in omega (arith, low, within)) c.index-modules-caller.is

pub go_on-requires-clause-at : goal.go_on-requires-clause-at
go_on-requires-clause-at g c =
    let p = c.requires.ready in
    subst (λ (q : Program). c.index_mut-2.result.now.call.pc < length q.code) (waiter_module g c)
    (wait_placed c.args.modules.now c.args.status p.0 c.args.store.now p.1 c.args.self.now p.2.v p.2.top p.2.rest p.2.ready (those_left g c) (waiter g c) c.index_mut-2.result.now (callers_were g c)
    (waiter_read g c))

pub go_on-requires-clause-passes : goal.go_on-requires-clause-passes
go_on-requires-clause-passes g c =
    let p = c.requires.ready in
    let at = wait_passes c.args.modules.now c.args.status p.0 c.args.store.now p.1 c.args.self.now p.2.v p.2.top p.2.rest p.2.ready (those_left g c) (waiter g c) c.index_mut-2.result.now
    (callers_were g c) (waiter_read g c) in
    (at.0, (at.1, ap (λ (q : Program). current q c.index_mut-2.result.now.call.pc) (sym (waiter_module g c)) ∙ at.2))

-- The call on top ended, and the one that waited for it goes on.
module _ (g : Over) (c : goal.After-self-3-1 g) (p : (tree : PoolTree Payload) × (d : Device) × CanProceed c.args.modules.now (instr.Ret c.args.status) tree c.args.store.now d c.args.self.now) where
  abbrev caller : ℕ
  caller = c.unwrap-caller.result

  abbrev left_filters : Vec Filter
  left_filters = with_item (with_item c.args.self.now.filters c.top-top.result c.end.new.self) caller c.go_on.new.self

  abbrev left_conn : Conn
  left_conn = with_calls c.args.self.now left_filters c.pop.new.self c.pop-2.new.self caller

  were : c.args.self.now.callers.items ≡ c.pop.new.self.items ++ caller ∷ []
  were = popped c.args.self.now.callers.items c.pop.new.self.items c.pop.result caller c.pop.ensures.items c.unwrap-caller.ensures

  caller_low : caller < top_of c.args.self.now
  caller_low = popped_below c.args.modules.now c.args.self.now c.pop.new.self.items caller p.2.ready.stands.left.stacked.called were

  both_changed : Replaces c.args.self.now left_conn caller c.index_mut.result.now c.end.new.self c.index_mut-2.result.now c.go_on.new.self
  both_changed =
      let within = top_within c.args.modules.now (instr.Ret c.args.status) p.0 c.args.store.now p.1 c.args.self.now p.2.v p.2.top p.2.rest p.2.ready in
      replaced c.args.self.now left_conn c.top-top.result caller c.index_mut.result.now c.end.new.self c.index_mut-2.result.now c.go_on.new.self within c.top-top.ensures caller_low
      c.index_mut.ensures.value c.index_mut-2.ensures.value refl

  gives_back : GivesBack c.args.modules.now c.args.status (lists c.args.store.now) (lists c.end.new.store) c.args.self.now left_conn caller
  gives_back =
      let stacked = p.2.ready.stands.left.stacked in
      let chain_is = module_read c.args.modules.now caller c.index-modules-caller.result (let low = caller_low in let within = stacked.within in omega (arith, low, within)) c.index-modules-caller.is in
      record {
        top = c.index_mut.result.now;
        ended = c.end.new.self;
        wait = c.index_mut-2.result.now;
        resumed = c.go_on.new.self;
        busy = (on_top_of c.args.modules.now (instr.Ret c.args.status) p.0 c.args.store.now p.1 c.args.self.now p.2.v p.2.top p.2.rest p.2.ready).busy;
        left = c.pop.new.self.items;
        callers = were;
        callers_after = refl;
        on_top = both_changed.on_top;
        below = both_changed.below;
        top_after = both_changed.top_after;
        below_after = both_changed.below_after;
        others = both_changed.others;
        waits = names_left c.args.self.now c.pop.new.self.items caller c.args.self.now.waits.len c.pop-2.new.self.items were stacked.called.waits c.args.self.now.waits.ok.0 c.pop-2.ensures.rest;
        count = both_changed.count;
        rings = c.end.ensures.out;
        slots = c.end.ensures.slots;
        rest = c.end.ensures.rest;
        name = c.end.ensures.name;
        pc = c.end.ensures.pc;
        lent = c.end.ensures.lent;
        instance = c.go_on.ensures.instance;
        call = c.go_on.ensures.call ∙ ap (λ (q : Program). let k = c.index_mut-2.result.now.call in record k { pc = after_pass c.args.status (current q k.pc) k.pc }) (sym chain_is);
        given = c.go_on.ensures.lent;
      }

pub returns-clause-leads : goal.returns-clause-leads
unfolding gives_back
returns-clause-leads g c tree device v f rest ready =
    let p : (t : PoolTree Payload) × (d : Device)
    × CanProceed c.args.modules.now (instr.Ret c.args.status) t c.args.store.now d c.args.self.now = (tree, device, record { v = v; top = f; rest = rest; ready = ready }) in
    returning c.args.modules.now c.args.status tree c.args.store.now device c.args.self.now v f rest ready c.end.new.store (left_filters g c p) c.pop.new.self c.pop-2.new.self (caller g c p) (gives_back g c p)
    c.end.ensures.next c.end.ensures.pools c.end.ensures.references c.end.ensures.names c.end.ensures.held

pub returns-clause-leaves : goal.returns-clause-leaves
returns-clause-leaves g c ps =
    let p = c.requires.ready in
    returned_leaves c.args.modules.now c.args.status ps c.args.store.now c.end.new.store c.args.self.now (left_filters g c p) c.pop.new.self c.pop-2.new.self (caller g c p) p.2.ready.stands.left.stacked
    (gives_back g c p)
    c.end.ensures.next c.end.ensures.names c.end.ensures.pools

pub returns-clause-ended : goal.returns-clause-ended
returns-clause-ended g c =
    let p = c.requires.ready in
    returned_ends c.args.modules.now c.args.status (map_of p.0) c.args.store.now c.end.new.store c.args.self.now (left_filters g c p) c.pop.new.self c.pop-2.new.self (caller g c p) p.2.ready.stands.left.stacked
    (gives_back g c p)
