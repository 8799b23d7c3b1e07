-- By the filter on top, and the one whose turn is next.
use Rattle.std.proofs.Common.{◌≡◌, ◌≢◌, ◌∙◌, ℕ, ◌+◌, ◌<◌, [], Some, length, false, refl, sym, ap, subst, arith}
use Rattle.std.specs.Global.{Vec}
use Rattle.std.specs.Vec.{with_item}
use Rattle.std.proofs.lemmas.List.{length-set}
use Rattle.module_code.specs.declared.instr.Instr.TheVariants as instr
use Rattle.bucket_kinds.specs.Device.{Device}
use Rattle.bucket_ring.specs.Kept.{NoneRevived}
use Rattle.run_model.specs.declared.payload.Payload.{Payload}
use Rattle.run_model.specs.Chains.{is_last, module_at}
use Rattle.run_model.specs.Passing.{handler_at}
use Rattle.pool_tree.specs.declared.tree.PoolTree.{PoolTree}
use Rattle.brigade_ops.specs.Store.{lists, brigade_of, pool_of, next_name}
use Rattle.interp_calls.specs.Begun.{IsBegun}
use Rattle.module_run.specs.declared.conn.Conn.{Conn}
use Rattle.module_run.specs.declared.conn.Filter.{Filter}
use Rattle.module_run.specs.Conns.{filter_at, modules_of}
use Rattle.module_run.specs.Proceeding.{CanProceed}
use Rattle.module_run.proofs.CallsLeave.{ends_unchanged, last_ends, last_leaves, turn_ends, turn_leaves}
use Rattle.module_run.proofs.EndedLast.{EndsLast, parts}
use Rattle.module_run.proofs.Ending.{ending}
use Rattle.module_run.proofs.FirstReady.{SetNext, as_was, first_brought, first_held, first_read, first_runs, first_within, made_brought, made_empty, made_free, made_held, made_none, one_begins}
use Rattle.module_run.proofs.FirstReady.{queue_later, set_first, set_next, zero_free}
use Rattle.pool_tree.specs.Tree.{map_of}
use Rattle.module_run.proofs.Neighbours.{rises_by, unchanged}
use Rattle.module_run.proofs.LeftSame.{left_same}
use Rattle.module_run.proofs.NextTurn.{Turns, turned, turning}
use Rattle.module_run.proofs.TopFilter.{module_read, on_top_of}
use Rattle.module_run.proofs.conn.Conn.return_last.Given.{Over}
use Rattle.module_run.proofs.conn.Conn.return_last.Goals as goal

pub end_first-requires-clause-held : goal.end_first-requires-clause-held
end_first-requires-clause-held g c = let p = c.requires.ready in
    first_held c.args.modules.now c.args.status p.0 c.args.store.now p.1 c.args.self.now p.2.v p.2.top p.2.rest p.2.ready c.requires.alone c.index_mut.result.now c.index_mut.ensures.value

pub end_first-requires-clause-runs : goal.end_first-requires-clause-runs
end_first-requires-clause-runs g c = let p = c.requires.ready in
    first_runs c.args.modules.now c.args.status p.0 c.args.store.now p.1 c.args.self.now p.2.v p.2.top p.2.rest p.2.ready c.requires.alone c.index_mut.result.now c.index_mut.ensures.value

pub end_first-requires-clause-free : goal.end_first-requires-clause-free
end_first-requires-clause-free g c = let p = c.requires.ready in zero_free c.args.modules.now c.args.status p.0 c.args.store.now p.1 c.args.self.now p.2.v p.2.top p.2.rest p.2.ready c.requires.alone

pub end_first-requires-clause-brought : goal.end_first-requires-clause-brought
end_first-requires-clause-brought g c = let p = c.requires.ready in
    first_brought c.args.modules.now c.args.status p.0 c.args.store.now p.1 c.args.self.now p.2.v p.2.top p.2.rest p.2.ready c.requires.alone c.index_mut.result.now c.index_mut.ensures.value

pub end_first-requires-2-clause-held : goal.end_first-requires-2-clause-held
end_first-requires-2-clause-held g c = let p = c.requires.ready in made_held c.args.modules.now c.args.status p.0 c.args.store.now p.1 c.args.self.now p.2.v p.2.top p.2.rest p.2.ready
    c.requires.alone c.index_mut-2.result.now c.index_mut-2.ensures.value c.loose.new.self c.in-Ok.name c.in-Ok.ensures.name c.in-Ok.ensures.ok c.in-Ok.ensures.next c.in-Ok.ensures.names
    c.in-Ok.ensures.pools

pub end_first-requires-2-clause-runs : goal.end_first-requires-2-clause-runs
end_first-requires-2-clause-runs g c = let p = c.requires.ready in
    first_runs c.args.modules.now c.args.status p.0 c.args.store.now p.1 c.args.self.now p.2.v p.2.top p.2.rest p.2.ready c.requires.alone c.index_mut-2.result.now c.index_mut-2.ensures.value

pub end_first-requires-2-clause-none : goal.end_first-requires-2-clause-none
end_first-requires-2-clause-none g c = let p = c.requires.ready in made_none c.args.modules.now c.args.status p.0 c.args.store.now p.1 c.args.self.now p.2.v p.2.top p.2.rest p.2.ready
    c.requires.alone c.index_mut-2.result.now c.index_mut-2.ensures.value c.loose.new.self c.in-Ok.name c.in-Ok.ensures.name c.in-Ok.ensures.ok c.in-Ok.ensures.next c.in-Ok.ensures.names
    c.in-Ok.ensures.pools

pub end_first-requires-2-clause-free : goal.end_first-requires-2-clause-free
end_first-requires-2-clause-free g c = let p = c.requires.ready in made_free c.args.modules.now c.args.status p.0 c.args.store.now p.1 c.args.self.now p.2.v p.2.top p.2.rest p.2.ready
    c.requires.alone c.index_mut-2.result.now c.index_mut-2.ensures.value c.loose.new.self c.in-Ok.name c.in-Ok.ensures.name c.in-Ok.ensures.ok c.in-Ok.ensures.next c.in-Ok.ensures.names
    c.in-Ok.ensures.pools

pub end_first-requires-2-clause-brought : goal.end_first-requires-2-clause-brought
end_first-requires-2-clause-brought g c = let p = c.requires.ready in made_brought c.args.modules.now c.args.status p.0 c.args.store.now p.1 c.args.self.now p.2.v p.2.top p.2.rest p.2.ready
    c.requires.alone c.index_mut-2.result.now c.index_mut-2.ensures.value c.loose.new.self c.in-Ok.name c.in-Ok.ensures.name c.in-Ok.ensures.ok c.in-Ok.ensures.next c.in-Ok.ensures.names
    c.in-Ok.ensures.pools

pub returns-in_default-clause-err : goal.returns-in_default-clause-err
returns-in_default-clause-err g c tree device v left =
    left_same c.args.modules.now tree c.args.store.now c.loose.new.self device c.args.self.now v c.in_default.ensures.err c.in_default.ensures.next c.in_default.ensures.pools
    c.in_default.ensures.references c.in_default.ensures.names left

pub returns-in_default-clause-sure : goal.returns-in_default-clause-sure
returns-in_default-clause-sure g c tree device v f rest ready none =
    let within : c.args.self.now.queue < modules_of c.args.self.now =
    (let a : c.args.self.now.queue ≢ length c.args.modules.now = c.if-next-modules.false in let q = ready.stands.left.stacked.queue in let m =
    ready.stands.left.stacked.many in omega (arith, a, q, m)) in
    absurd (let one = one_begins c.args.modules.now c.args.status tree c.args.store.now device c.args.self.now v f rest ready c.requires.alone (is_last c.args.modules.now v.1 f.of) within in omega (arith, one, none))

-- No filter is left in the queue: the call ended.
module _ (g : Over) (c : goal.After-self-then-next-modules-1 g)
    (p : (tree : PoolTree Payload) × (d : Device) × CanProceed c.args.modules.now (instr.Ret c.args.status) tree c.args.store.now d c.args.self.now) where
  abbrev ended_filters : Vec Filter
  ended_filters = with_item c.args.self.now.filters c.args.self.now.first c.end_first.new.self

  abbrev idle : Conn
  idle = record c.args.self.now { filters = ended_filters; busy = false }

  alone_set : (filter_at idle c.args.self.now.first ≡ Some c.end_first.new.self) × ((j : ℕ) → j ≢ c.args.self.now.first → filter_at idle j ≡ filter_at c.args.self.now j)
  alone_set = set_first c.args.self.now idle c.end_first.new.self
      (first_within c.args.modules.now c.args.status p.0 c.args.store.now p.1 c.args.self.now p.2.v p.2.top p.2.rest p.2.ready c.requires.alone) refl

  ends_alone : EndsLast (lists c.args.store.now) (lists c.end_first.new.store) (next_name c.args.store.now) c.args.self.now idle
  ends_alone = record {
    top = c.index_mut.result.now;
    ended = c.end_first.new.self;
    busy = (on_top_of c.args.modules.now (instr.Ret c.args.status) p.0 c.args.store.now p.1 c.args.self.now p.2.v p.2.top p.2.rest p.2.ready).busy;
    none = c.requires.alone;
    on_top = first_read c.args.modules.now c.args.status p.0 c.args.store.now p.1 c.args.self.now p.2.v p.2.top p.2.rest p.2.ready c.requires.alone c.index_mut.result.now c.index_mut.ensures.value;
    top_after = alone_set.0;
    others = λ j ne. ap parts (alone_set.1 j ne);
    rings = λ n below off came. c.end_first.ensures.others n off came;
    slots = c.end_first.ensures.slots;
    rest = c.end_first.ensures.rest;
    name = c.end_first.ensures.name;
    lent = c.end_first.ensures.lent;
  }

pub returns-then-next-modules-clause-leads : goal.returns-then-next-modules-clause-leads
unfolding ends_alone
returns-then-next-modules-clause-leads g c tree device v f rest ready =
    let p : (t : PoolTree Payload) × (d : Device)
    × CanProceed c.args.modules.now (instr.Ret c.args.status) t c.args.store.now d c.args.self.now = (tree, device, record { v = v; top = f; rest = rest; ready = ready }) in
    ending c.args.modules.now c.args.status tree c.args.store.now device c.args.self.now v f rest ready c.requires.alone c.end_first.new.store (ended_filters g c p) (ends_alone g c p)
    (length-set c.args.self.now.filters.items c.args.self.now.first c.end_first.new.self) (let q : c.args.self.now.queue ≡ length c.args.modules.now = c.if-next-modules.true in let m = ready.stands.left.stacked.many in omega (arith, q, m)) (alone_set g c p).1
    c.end_first.ensures.next c.end_first.ensures.pools c.end_first.ensures.references c.end_first.ensures.names c.end_first.ensures.held

pub returns-then-next-modules-clause-leaves : goal.returns-then-next-modules-clause-leaves
returns-then-next-modules-clause-leaves g c ps =
    let p = c.requires.ready in
    last_leaves c.args.modules.now ps c.args.store.now c.end_first.new.store c.args.self.now (idle g c p) p.2.ready.stands.left.stacked (ends_alone g c p) p.2.ready.stands.left.none
    (alone_set g c p).1 c.end_first.ensures.next c.end_first.ensures.names c.end_first.ensures.pools

pub returns-then-next-modules-clause-ended : goal.returns-then-next-modules-clause-ended
unfolding ends_alone
returns-then-next-modules-clause-ended g c =
    let p = c.requires.ready in
    last_ends c.args.modules.now (map_of p.0) c.args.store.now c.end_first.new.store c.args.self.now (idle g c p) p.2.ready.stands.left.stacked (ends_alone g c p) p.2.ready.stands.left.none
    (alone_set g c p).1 c.end_first.ensures.gone c.end_first.ensures.brought

-- The first call of the next filter begins.
module _ (g : Over) (c : goal.After-self-6-1 g) (p : (tree : PoolTree Payload) × (d : Device) × CanProceed c.args.modules.now (instr.Ret c.args.status) tree c.args.store.now d c.args.self.now) where
  within : c.args.self.now.queue < modules_of c.args.self.now
  within = (let a : c.args.self.now.queue ≢ length c.args.modules.now = c.if-next-modules.false in let q = p.2.ready.stands.left.stacked.queue in
      let m = p.2.ready.stands.left.stacked.many in omega (arith, a, q, m))

  later : c.args.self.now.first < c.args.self.now.queue
  later = queue_later c.args.modules.now c.args.status p.0 c.args.store.now p.1 c.args.self.now p.2.v p.2.top p.2.rest p.2.ready c.requires.alone within

  abbrev next_filters : Vec Filter
  next_filters = with_item (with_item c.args.self.now.filters c.args.self.now.first c.end_first-2.new.self) c.args.self.now.queue c.begin.new.self

  abbrev goes_on : Conn
  goes_on = turned c.args.self.now next_filters

  both_set : SetNext c.args.self.now goes_on c.end_first-2.new.self c.index_mut-3.result.now c.begin.new.self
  both_set = set_next c.args.self.now goes_on c.end_first-2.new.self c.index_mut-3.result.now c.begin.new.self later (let w = within in omega (arith, w)) c.index_mut-3.ensures.value c.begin.ensures.instance c.begin.ensures.lent
      refl

  no_loose : lists c.end_first-2.new.store (next_name c.args.store.now) ≡ Some []
  no_loose =
      let held = first_held c.args.modules.now c.args.status p.0 c.args.store.now p.1 c.args.self.now p.2.v p.2.top p.2.rest p.2.ready c.requires.alone c.index_mut-2.result.now
      c.index_mut-2.ensures.value in
      c.end_first-2.ensures.others (next_name c.args.store.now) (λ e. let a = held.called in omega (arith, a, e)) (λ e. let a = held.named 8 (next_name c.args.store.now) e in omega (arith, a))
      ∙ made_empty c.args.modules.now c.args.status p.0 c.args.store.now p.1 c.args.self.now p.2.v p.2.top p.2.rest p.2.ready c.requires.alone c.index_mut-2.result.now c.index_mut-2.ensures.value
      c.loose.new.self c.in-Ok.name c.in-Ok.ensures.name c.in-Ok.ensures.ok c.in-Ok.ensures.next c.in-Ok.ensures.names c.in-Ok.ensures.pools

  ends_first : EndsLast (lists c.args.store.now) (lists c.end_first-2.new.store) (next_name c.args.store.now) c.args.self.now goes_on
  ends_first = record {
    top = c.index_mut-2.result.now;
    ended = c.end_first-2.new.self;
    busy = (on_top_of c.args.modules.now (instr.Ret c.args.status) p.0 c.args.store.now p.1 c.args.self.now p.2.v p.2.top p.2.rest p.2.ready).busy;
    none = c.requires.alone;
    on_top = first_read c.args.modules.now c.args.status p.0 c.args.store.now p.1 c.args.self.now p.2.v p.2.top p.2.rest p.2.ready c.requires.alone c.index_mut-2.result.now
        c.index_mut-2.ensures.value;
    top_after = both_set.first;
    others = both_set.same;
    rings = λ n below off came. c.end_first-2.ensures.others n off came ∙ as_was c.args.modules.now c.args.status p.0 c.args.store.now p.1 c.args.self.now p.2.v p.2.top p.2.rest p.2.ready
        c.requires.alone c.index_mut-2.result.now c.index_mut-2.ensures.value c.loose.new.self c.in-Ok.name c.in-Ok.ensures.name c.in-Ok.ensures.ok c.in-Ok.ensures.next c.in-Ok.ensures.names
        c.in-Ok.ensures.pools n below;
    slots = c.end_first-2.ensures.slots;
    rest = c.end_first-2.ensures.rest;
    name = c.end_first-2.ensures.name;
    lent = c.end_first-2.ensures.lent;
  }

  turns : Turns c.args.modules.now (next_name c.args.store.now) c.args.self.now goes_on
  turns =
      let chain_is : module_at c.args.modules.now c.args.self.now.queue ≡ c.index-modules-next.result = module_read c.args.modules.now c.args.self.now.queue c.index-modules-next.result
      (let w = within in let m = p.2.ready.stands.left.stacked.many in omega (arith, w, m)) c.index-modules-next.is in
      let pc_is : c.handler-pc.result ≡ handler_at c.args.self.now.req (module_at c.args.modules.now c.args.self.now.queue) =
      c.handler-pc.ensures ∙ ap (handler_at c.args.self.now.req) (sym chain_is) in
      record {
        before = c.index_mut-3.result.now;
        begun = c.begin.new.self;
        later = later;
        within = within;
        was = both_set.was;
        now = both_set.now;
        instance = c.begin.ensures.instance;
        call = subst (λ (n : ℕ). IsBegun n (handler_at c.args.self.now.req (module_at c.args.modules.now c.args.self.now.queue)) c.begin.new.self.call) c.in-Ok.ensures.name
            (subst (λ (n : ℕ). IsBegun c.in-Ok.name n c.begin.new.self.call) pc_is c.begin.ensures.begun);
        others = both_set.others;
        count = both_set.count;
      }

  next_is : next_name c.end_first-2.new.store ≡ next_name c.args.store.now + 1
  next_is = c.end_first-2.ensures.next ∙ c.in-Ok.ensures.next

  pools_are : pool_of c.end_first-2.new.store ≡ pool_of c.args.store.now
  pools_are = c.end_first-2.ensures.pools ∙ c.in-Ok.ensures.pools

  none_revived : NoneRevived (brigade_of c.args.store.now) (brigade_of c.end_first-2.new.store) (next_name c.args.store.now)
  none_revived id there young = c.in-Ok.ensures.names id (c.end_first-2.ensures.names id there (let n = c.in-Ok.ensures.next in omega (arith, young, n))) young

pub returns-clause-leads : goal.returns-clause-leads
unfolding ends_first
returns-clause-leads g c tree device v f rest ready =
    let p : (t : PoolTree Payload) × (d : Device)
    × CanProceed c.args.modules.now (instr.Ret c.args.status) t c.args.store.now d c.args.self.now = (tree, device, record { v = v; top = f; rest = rest; ready = ready }) in
    turning c.args.modules.now c.args.status tree c.args.store.now device c.args.self.now v f rest ready c.requires.alone c.end_first-2.new.store (next_filters g c p) (ends_first g c p) (turns g c p)
    (no_loose g c p) (next_is g c p) (pools_are g c p) (none_revived g c p) c.end_first-2.ensures.held (c.end_first-2.ensures.references ∙ c.in-Ok.ensures.references)

pub returns-in_default-clause-leaves : goal.returns-in_default-clause-leaves
returns-in_default-clause-leaves g c ps =
    let e = c.in_default.ensures in
    let next = e.next in
    unchanged ps c.args.store.now c.loose.new.self c.args.self.now c.args.self.now e.err e.pools (rises_by next) e.names (λ k. refl)

pub returns-in_default-clause-ended : goal.returns-in_default-clause-ended
returns-in_default-clause-ended g c = ends_unchanged c.args.store.now c.loose.new.self c.args.self.now c.args.self.now (λ k. refl)

pub returns-clause-leaves : goal.returns-clause-leaves
returns-clause-leaves g c ps =
    let p = c.requires.ready in
    turn_leaves c.args.modules.now ps c.args.store.now c.end_first-2.new.store c.args.self.now (goes_on g c p) p.2.ready.stands.left.stacked (ends_first g c p) p.2.ready.stands.left.none
    (turns g c p) (next_is g c p) (none_revived g c p) (pools_are g c p)

pub returns-clause-ended : goal.returns-clause-ended
unfolding ends_first
returns-clause-ended g c =
    let p = c.requires.ready in
    turn_ends c.args.modules.now (map_of p.0) c.args.store.now c.end_first-2.new.store c.args.self.now (goes_on g c p) p.2.ready.stands.left.stacked (ends_first g c p) p.2.ready.stands.left.none
    (turns g c p) c.end_first-2.ensures.gone c.end_first-2.ensures.brought
