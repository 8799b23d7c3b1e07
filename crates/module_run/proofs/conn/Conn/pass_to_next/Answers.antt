-- The filter on top and the next one are changed, and the others are as they were.
use Rattle.std.proofs.Common.{◌≡◌, ◌==◌, ◌+◌, ◌<◌, ℕ, List, [], ◌∷◌, ◌++◌, Option, Some, None, true, is_some, is_ok, length, refl, sym, ap, subst, ◌∙◌, arith}
use Rattle.std.specs.Prelude.{if◌then◌else◌, slice_get}
use Rattle.std.specs.Global.{Vec}
use Rattle.std.specs.Vec.{with_item}
use Rattle.module_code.specs.Program.{Program}
use Rattle.bucket_kinds.specs.Device.{Device}
use Rattle.bucket_kinds.specs.declared.stored.Stored.{Stored}
use Rattle.bucket_ring.specs.declared.rings.Rings.{Ghosts}
use Rattle.run_model.specs.declared.bucket.Mark.TheVariants.{Usable, Passed}
use Rattle.run_model.specs.Effects.{do_pass}
use Rattle.run_model.specs.State.{set_brigade, fresh_call}
use Rattle.brigade_ops.specs.declared.store.Brigades.{Brigades}
use Rattle.brigade_ops.specs.Store.{lists, next_name}
use Rattle.module_run.specs.declared.conn.Conn.{Conn}
use Rattle.module_run.specs.declared.conn.Filter.{Filter}
use Rattle.module_run.specs.Passing.{CanPass}
use Rattle.interp_state.specs.declared.machine.Call.{Call}
use Rattle.interp_state.specs.declared.machine.Instance.{Instance}
use Rattle.interp_state.specs.declared.machine.Slot.TheVariants as slot
use Rattle.bucket_store.specs.Items.{Items}
use Rattle.module_run.specs.Conns.{filter_at, place_in, shown_call, top_of}
use Rattle.interp_calls.specs.Handed.{lent}
use Rattle.interp_state.specs.Held.{IsHeld}
use Rattle.interp_state.specs.Seen.{seen, calls_in, is_running, shown_slot}
use Rattle.interp_state.specs.Slots.{live_in, marked, name_in, slot_at}
use Rattle.module_run.specs.Stacked.{named_at}
use Rattle.module_run.proofs.CanPass.{passer, passed_live, passed_variable, next_behind, next_left, next_free, next_there, next_idle, next_alone, next_lacks}
use Rattle.module_run.proofs.HandsOn.{HandsOn}
use Rattle.module_run.proofs.HandsOnBuilt.{on_err, pushed_ok, same_back, reads_next, reads_top, reads_behind, reads_again, written, built}
use Rattle.module_run.proofs.HandsOnLeft.{OneMore, held_more, live_more, lists_kept, hands_on}
use Rattle.pool_tree.specs.Tree.{map_of}
use Rattle.module_run.proofs.CallsLeave.{ends_unchanged, handed_ends, handed_leaves}
use Rattle.module_run.proofs.Neighbours.{rises_by, unchanged, unmoved}
use Rattle.module_run.proofs.Spared.{left_spared}
use Rattle.module_run.proofs.TopFilter.{module_read}
use Rattle.module_run.proofs.Tops.{OnTop}
use Rattle.module_run.proofs.conn.Conn.pass_to_next.Given.{Over}
use Rattle.module_run.proofs.conn.Conn.pass_to_next.Goals as goal

-- The filter that passes a brigade, and the one behind it.
module _ {R : Type 0} {g : Ghosts R Stored} (chain : List Program) (b : ℕ) (store : Brigades R g) (c : Conn) (to : ℕ) (inside : to < length chain)
    (next : (rings : ℕ → Option Items) → to ≡ place_in chain rings c (top_of c + 1))
    (p : (d : Device) × CanPass chain b store d c) where
  abbrev passing : OnTop (lists store) c p.1.f p.1.rest
  passing = passer chain b p.1.label p.1.tree store p.0 c p.1.v p.1.f p.1.rest p.1.ready

  abbrev behind : (e : Filter) × (filter_at c to ≡ Some e)
  behind = next_there chain b p.1.label p.1.tree store p.0 c p.1.v p.1.f p.1.rest p.1.ready to inside next

  behind_later : top_of c < to
  behind_later = next_behind chain b p.1.label p.1.tree store p.0 c p.1.v p.1.f p.1.rest p.1.ready to inside next

  behind_within : to < length c.filters.items
  behind_within = (let w : length c.filters.items ≡ length chain + 1 = p.1.ready.stands.left.stacked.many in omega (arith, w, inside))

pub returns-in_err-reserve-clause-err : goal.returns-in_err-reserve-clause-err
returns-in_err-reserve-clause-err g c =
    on_err c.from_residual.result (λ tree d v left.
    left_spared c.args.self.now c.args.self.now.filters c.args.self.now.callers c.reserve.new.self refl refl c.reserve.ensures.items c.args.modules.now tree c.args.store.now c.args.store.now d v (λ n. refl) refl
    (λ id is young. is) refl refl left)

pub returns-in_err-reserve-2-clause-err : goal.returns-in_err-reserve-2-clause-err
returns-in_err-reserve-2-clause-err g c =
    on_err c.from_residual-in_err-reserve-2.result (λ tree d v left.
    left_spared c.args.self.now c.args.self.now.filters c.reserve-2.new.self c.reserve.new.self refl c.reserve-2.ensures.items c.reserve.ensures.items c.args.modules.now tree c.args.store.now
    c.args.store.now d v (λ n. refl) refl (λ id is young. is) refl refl left)

pub index_mut-requires : goal.index_mut-requires
index_mut-requires g c =
    let n = behind_within c.args.modules.now c.args.b c.args.store.now c.args.self.now c.args.to c.requires.last c.requires.next c.requires.ready in
    let len = c.args.self.now.filters.ok.0 in
    let at = c.top-top.ensures in
    omega (arith, n, len, at)

pub index_mut-requires-3 : goal.index_mut-requires-3
index_mut-requires-3 g c =
    let n = behind_within c.args.modules.now c.args.b c.args.store.now c.args.self.now c.args.to c.requires.last c.requires.next c.requires.ready in
    let len = c.args.self.now.filters.ok.0 in
    let at = c.top-top.ensures in
    omega (arith, n, len, at)

-- the next filter as it was read
next_read : (g : Over) (c : goal.After-main g) → c.index_mut.result.now ≡ (behind c.args.modules.now c.args.b c.args.store.now c.args.self.now c.args.to c.requires.last c.requires.next c.requires.ready).0
next_read g c =
    let e = behind c.args.modules.now c.args.b c.args.store.now c.args.self.now c.args.to c.requires.last c.requires.next c.requires.ready in
    reads_next c.args.self.now c.args.to e.0 c.index_mut.result.now e.1 c.index_mut.ensures.value

pub begin_in-requires-clause-held : goal.begin_in-requires-clause-held
begin_in-requires-clause-held g c =
    let p = c.requires.ready.1 in
    let e = behind c.args.modules.now c.args.b c.args.store.now c.args.self.now c.args.to c.requires.last c.requires.next c.requires.ready in
    subst (λ (f : Filter). IsHeld c.args.store.now f.instance f.call) (sym (next_read g c)) (p.ready.stands.left.stacked.held c.args.to e.0 e.1)

pub begin_in-requires-clause-idle : goal.begin_in-requires-clause-idle
begin_in-requires-clause-idle g c =
    let p = c.requires.ready.1 in
    ap (λ (f : Filter). f.call.name) (next_read g c)
    ∙ next_idle c.args.modules.now c.args.b p.label p.tree c.args.store.now c.requires.ready.0 c.args.self.now p.v p.f p.rest p.ready c.args.to c.requires.last c.requires.next

pub begin_in-requires-clause-free : goal.begin_in-requires-clause-free
begin_in-requires-clause-free g c =
    let p = c.requires.ready.1 in
    next_free c.args.modules.now c.args.b p.label p.tree c.args.store.now c.requires.ready.0 c.args.self.now p.v p.f p.rest p.ready c.args.to c.requires.last c.requires.next

pub begin_in-requires-clause-left : goal.begin_in-requires-clause-left
begin_in-requires-clause-left g c =
    let p = c.requires.ready.1 in
    next_left c.args.modules.now c.args.b p.label p.tree c.args.store.now c.requires.ready.0 c.args.self.now p.v p.f p.rest p.ready c.args.to c.requires.last c.requires.next

-- without memory the next filter is written back as it was
put_back : (g : Over) (c : goal.After-from_residual-in_err-begin_in g) → (with_item c.args.self.now.filters c.args.to c.begin_in.new.self).items ≡ c.args.self.now.filters.items
put_back g c = same_back c.args.self.now.filters c.args.to c.index_mut.result.now c.begin_in.new.self c.index_mut.ensures.value c.in_err-begin_in.ensures.same

pub returns-in_err-begin_in-clause-err : goal.returns-in_err-begin_in-clause-err
returns-in_err-begin_in-clause-err g c =
    on_err c.from_residual-in_err-begin_in.result (λ tree d v left.
    left_spared c.args.self.now (with_item c.args.self.now.filters c.args.to c.begin_in.new.self) c.reserve-2.new.self c.reserve.new.self (put_back g c) c.reserve-2.ensures.items c.reserve.ensures.items
    c.args.modules.now tree c.args.store.now c.begin_in.new.store d v c.in_err-begin_in.ensures.err c.in_err-begin_in.ensures.next c.begin_in.ensures.names c.begin_in.ensures.pools
    c.begin_in.ensures.references left)

pub lend-name-requires-clause-slot : goal.lend-name-requires-clause-slot
lend-name-requires-clause-slot g c =
    let p = c.requires.ready.1 in
    passed_variable c.args.modules.now c.args.b p.label p.tree c.args.store.now c.requires.ready.0 c.args.self.now p.v p.f p.rest p.ready

pub lend-name-requires-clause-live : goal.lend-name-requires-clause-live
lend-name-requires-clause-live g c =
    let p = c.requires.ready.1 in
    let t = passing c.args.modules.now c.args.b c.args.store.now c.args.self.now c.args.to c.requires.last c.requires.next c.requires.ready in
    let e = behind c.args.modules.now c.args.b c.args.store.now c.args.self.now c.args.to c.requires.last c.requires.next c.requires.ready in
    let within = behind_within c.args.modules.now c.args.b c.args.store.now c.args.self.now c.args.to c.requires.last c.requires.next c.requires.ready in
    let later = behind_later c.args.modules.now c.args.b c.args.store.now c.args.self.now c.args.to c.requires.last c.requires.next c.requires.ready in
    let more : OneMore c.args.store.now c.begin_in.new.store = record {
      out = c.in_ok-begin_in.ensures.out;
      next = c.in_ok-begin_in.ensures.next;
      names = c.begin_in.ensures.names;
      pools = c.begin_in.ensures.pools;
      references = c.begin_in.ensures.references;
    } in
    subst (λ (f : Filter). is_some (live_in (lists c.begin_in.new.store) (slot_at f.instance c.args.b)) ≡ true)
    (sym (reads_top c.args.self.now c.top-top.result c.args.to c.top-top.ensures later c.begin_in.new.self c.begin_in.new.self c.begin_in.new.self t.filter e.0 t.is e.1 within c.index_mut-2.result.now
    c.index_mut-2.ensures.value))
    (live_more c.args.store.now c.begin_in.new.store more (slot_at t.filter.instance c.args.b) ((p.ready.stands.left.stacked.held (top_of c.args.self.now) t.filter t.is).named c.args.b)
    (passed_live c.args.modules.now c.args.b p.label p.tree c.args.store.now c.requires.ready.0 c.args.self.now p.v p.f p.rest p.ready))

-- The filter on top waits then, and the call of the next one began.
module _ (g : Over) (c : goal.After-self-4-1 g) (p : (d : Device) × CanPass c.args.modules.now c.args.b c.args.store.now d c.args.self.now) where
  abbrev top_was : OnTop (lists c.args.store.now) c.args.self.now p.1.f p.1.rest
  top_was = passing c.args.modules.now c.args.b c.args.store.now c.args.self.now c.args.to c.requires.last c.requires.next p

  abbrev next_was : (e : Filter) × (filter_at c.args.self.now c.args.to ≡ Some e)
  next_was = behind c.args.modules.now c.args.b c.args.store.now c.args.self.now c.args.to c.requires.last c.requires.next p

  abbrev next_is : Filter
  next_is = record { instance = c.take_in.new.instance; call = c.index_mut-3.result.now.call; lent = c.index_mut-3.result.now.lent }

  later : top_of c.args.self.now < c.args.to
  later = behind_later c.args.modules.now c.args.b c.args.store.now c.args.self.now c.args.to c.requires.last c.requires.next p

  abbrev filters_are : Vec Filter
  filters_are = written c.args.self.now c.top-top.result c.args.to c.top-top.ensures later c.begin_in.new.self c.lend-name.new.self next_is

  one_more : OneMore c.args.store.now c.begin_in.new.store
  one_more = record {
    out = c.in_ok-begin_in.ensures.out;
    next = c.in_ok-begin_in.ensures.next;
    names = c.begin_in.ensures.names;
    pools = c.begin_in.ensures.pools;
    references = c.begin_in.ensures.references;
  }

  within : c.args.to < length c.args.self.now.filters.items
  within = behind_within c.args.modules.now c.args.b c.args.store.now c.args.self.now c.args.to c.requires.last c.requires.next p

  here : c.index_mut-2.result.now ≡ top_was.filter
  here = reads_top c.args.self.now c.top-top.result c.args.to c.top-top.ensures later c.begin_in.new.self c.lend-name.new.self next_is top_was.filter next_was.0 top_was.is next_was.1 within
      c.index_mut-2.result.now c.index_mut-2.ensures.value

  there : c.index_mut-3.result.now ≡ c.begin_in.new.self
  there = reads_behind c.args.self.now c.top-top.result c.args.to c.top-top.ensures later c.begin_in.new.self c.lend-name.new.self next_is top_was.filter next_was.0 top_was.is next_was.1 within
      c.index_mut-3.result.now c.index_mut-3.ensures.value

  read_behind : c.index_mut.result.now ≡ next_was.0
  read_behind = reads_next c.args.self.now c.args.to next_was.0 c.index_mut.result.now next_was.1 c.index_mut.ensures.value

  entered : c.index_mut-3.result.now.instance ≡ next_was.0.instance
  entered = ap (λ (q : Filter). q.instance) there ∙ (c.begin_in.ensures.instance ∙ ap (λ (q : Filter). q.instance) read_behind)

  handed : named_at top_was.filter c.args.b ≡ Some c.lend-name.result
  handed = ap (λ (q : Filter). named_at q c.args.b) (sym here) ∙ c.lend-name.ensures.name

  named : next_is.call.name ≡ next_name c.args.store.now
  named = ap (λ (q : Filter). q.call.name) there ∙ c.in_ok-begin_in.ensures.name

  called : c.lend-name.new.self.call ≡ top_was.filter.call
  called = c.lend-name.ensures.call ∙ ap (λ (q : Filter). q.call) here

  alone : next_is.lent ≡ None
  alone =
      let last = next_alone c.args.modules.now c.args.b p.1.label p.1.tree c.args.store.now p.0 c.args.self.now p.1.v p.1.f p.1.rest p.1.ready c.args.to c.requires.last c.requires.next in
      ap (λ (q : Filter). q.lent) there ∙ (c.begin_in.ensures.lent ∙ (ap (λ (q : Filter). q.lent) read_behind ∙ last))

  waits : c.push.new.self.items ≡ c.args.self.now.waits.items ++ top_was.filter.call.name ∷ []
  waits =
      let again = reads_again c.args.self.now c.top-top.result c.args.to c.top-top.ensures later c.begin_in.new.self c.lend-name.new.self next_is top_was.filter next_was.0 top_was.is next_was.1 within
      c.index.result.now c.index.ensures in
      let ok : is_ok c.push.result ≡ true = ap (λ r. is_ok r) c.unwrap.ensures in
      pushed_ok c.push.result _ _ ok c.push.new.self.items c.push.ensures.items
      ∙ (ap (λ (ns : List ℕ). ns ++ c.index.result.now.call.name ∷ []) c.reserve.ensures.items
      ∙ ap (λ (k : ℕ). c.args.self.now.waits.items ++ k ∷ []) (ap (λ (q : Filter). q.call.name) again ∙ ap (λ (q : Call). q.name) called))

  callers : c.push-2.new.self.items ≡ c.args.self.now.callers.items ++ top_of c.args.self.now ∷ []
  callers =
      let ok : is_ok c.push-2.result ≡ true = ap (λ r. is_ok r) c.unwrap-2.ensures in
      pushed_ok c.push-2.result _ _ ok c.push-2.new.self.items c.push-2.ensures.items
      ∙ (ap (λ (ns : List ℕ). ns ++ c.top-top.result ∷ []) c.reserve-2.ensures.items
      ∙ ap (λ (k : ℕ). c.args.self.now.callers.items ++ k ∷ []) c.top-top.ensures)

  hands : HandsOn c.args.self.now filters_are c.push-2.new.self c.push.new.self c.args.to (next_name c.args.store.now) c.args.b c.lend-name.result top_was.filter next_was.0 c.lend-name.new.self next_is
  hands =
      let b = c.args.b in
      let y = c.lend-name.new.self in
      let m = c.lend-name.result in
      let slots : (a : ℕ) → slot_at y.instance a ≡ (if a == b then marked Passed (slot_at top_was.filter.instance b) else slot_at top_was.filter.instance a) =
      λ a. subst (λ (q : Filter). slot_at y.instance a ≡ (if a == b then marked Passed (slot_at q.instance b) else slot_at q.instance a)) here (c.lend-name.ensures.slots a) in
      let slots_behind : (a : ℕ) → slot_at next_is.instance a ≡ (if a == 8 then slot.Made m None Usable else slot_at next_was.0.instance a) =
      λ a. subst (λ (i : Instance). slot_at next_is.instance a ≡ (if a == 8 then slot.Made m None Usable else slot_at i a)) entered (c.take_in.ensures.slots a) in
      let variable = passed_variable c.args.modules.now b p.1.label p.1.tree c.args.store.now p.0 c.args.self.now p.1.v p.1.f p.1.rest p.1.ready in
      built c.args.self.now c.top-top.result c.args.to c.top-top.ensures later c.begin_in.new.self y next_is top_was.filter next_was.0 top_was.is next_was.1 within c.push-2.new.self c.push.new.self (next_name c.args.store.now) b m
      callers waits top_was.busy variable handed slots slots_behind called named c.lend-name.ensures.lent alone

pub returns-clause-ok : goal.returns-clause-ok
returns-clause-ok g c tree d l v f rest ready =
    let self = c.args.self.now in
    let chain = c.args.modules.now in
    let old = c.args.store.now in
    let new = c.begin_in.new.store in
    let b = c.args.b in
    let m = c.lend-name.result in
    let y = c.lend-name.new.self in
    let p : (d : Device) × CanPass chain b old d self = (d, record { tree = tree; label = l; v = v; f = f; rest = rest; ready = ready }) in
    let t = top_was g c p in
    let e = next_was g c p in
    let z = next_is g c p in
    let more = one_more g c p in
    let name = named g c p in
    let held = ready.stands.left.stacked.held (top_of self) t.filter t.is in
    let below = held.named b m (handed g c p) in
    let stays : IsHeld new c.index_mut-2.result.now.instance y.call =
    subst (λ (k : Call). IsHeld new c.index_mut-2.result.now.instance k) (sym (called g c p))
    (subst (λ (q : Filter). IsHeld new q.instance t.filter.call) (sym (here g c p)) (held_more old new more t.filter.instance t.filter.call held)) in
    let begins : IsHeld new c.index_mut-3.result.now.instance z.call = subst (λ (q : Filter). IsHeld new q.instance q.call) (sym (there g c p)) c.in_ok-begin_in.ensures.held in
    let enters : IsHeld new z.instance z.call =
    c.take_in.ensures.held z.call
    (λ a is. next_lacks chain b l tree old d self v f rest ready c.args.to c.requires.last c.requires.next m a (handed g c p) (ap (λ (i : Instance). name_in (slot_at i a)) (sym (entered g c p)) ∙ is))
    (λ q. omega (arith, q, name, below)) (held.real b m (handed g c p)) begins in
    hands_on chain b l tree old new d self v f rest ready c.args.to c.requires.last c.requires.next more (filters_are g c p) c.push-2.new.self c.push.new.self m y z (hands g c p)
    (c.lend-name.ensures.held y.call stays) enters
    (λ view call. subst (λ (q : Filter). lent b (seen new view y.instance call) ≡ do_pass b (seen new view q.instance call)) (here g c p) (c.lend-name.ensures.seen view call))
    (λ view call. subst (λ (i : Instance). seen new view z.instance call ≡ set_brigade 8 (shown_slot (calls_in view call) (lists new) (slot.Made m None Usable)) (seen new view i call))
    (entered g c p) (c.take_in.ensures.seen view call))
    (ap is_some (sym (lists_kept old new more m below)) ∙ c.lend-name.ensures.there)
    (subst (λ (k : Call). (waits : List ℕ) → shown_call (is_running k.name waits) (lists new) k ≡ fresh_call (next_name old))
    (ap (λ (q : Filter). q.call) (sym (there g c p))) c.in_ok-begin_in.ensures.call)
    (ap (λ (q : Filter). q.call.pc) (there g c p) ∙ (c.in_ok-begin_in.ensures.pc ∙ (c.main.ensures.value
    ∙ (ap (λ (p : Program). p.main) (sym (module_read chain c.args.to c.index-modules-to.result c.requires.last c.index-modules-to.is))))))

pub returns-in_err-reserve-clause-leaves : goal.returns-in_err-reserve-clause-leaves
unfolding filter_at
returns-in_err-reserve-clause-leaves g c ps = unmoved ps c.args.store.now c.args.self.now _ (λ k. refl)

pub returns-in_err-reserve-clause-ended : goal.returns-in_err-reserve-clause-ended
unfolding filter_at
returns-in_err-reserve-clause-ended g c = ends_unchanged c.args.store.now c.args.store.now c.args.self.now _ (λ k. refl)

pub returns-in_err-reserve-2-clause-leaves : goal.returns-in_err-reserve-2-clause-leaves
unfolding filter_at
returns-in_err-reserve-2-clause-leaves g c ps = unmoved ps c.args.store.now c.args.self.now _ (λ k. refl)

pub returns-in_err-reserve-2-clause-ended : goal.returns-in_err-reserve-2-clause-ended
unfolding filter_at
returns-in_err-reserve-2-clause-ended g c = ends_unchanged c.args.store.now c.args.store.now c.args.self.now _ (λ k. refl)

pub returns-in_err-begin_in-clause-leaves : goal.returns-in_err-begin_in-clause-leaves
unfolding filter_at
returns-in_err-begin_in-clause-leaves g c ps =
    let e = c.in_err-begin_in.ensures in
    let next = e.next in
    unchanged ps c.args.store.now c.begin_in.new.store c.args.self.now _ e.err c.begin_in.ensures.pools (rises_by next) c.begin_in.ensures.names
    (λ k. ap (λ (fs : List Filter). slice_get fs k) (put_back g c))

pub returns-in_err-begin_in-clause-ended : goal.returns-in_err-begin_in-clause-ended
unfolding filter_at
returns-in_err-begin_in-clause-ended g c = ends_unchanged c.args.store.now c.begin_in.new.store c.args.self.now _ (λ k. ap (λ (fs : List Filter). slice_get fs k) (put_back g c))

pub returns-clause-leaves : goal.returns-clause-leaves
returns-clause-leaves g c ps =
    let p = c.requires.ready in
    handed_leaves c.args.modules.now ps c.args.store.now c.begin_in.new.store c.args.self.now (filters_are g c p) c.push-2.new.self c.push.new.self c.args.to c.args.b c.lend-name.result (top_was g c p).filter (next_was g c p).0
    c.lend-name.new.self (next_is g c p) p.1.ready.stands.left.stacked (hands g c p) (one_more g c p) p.1.ready.stands.left.none

pub returns-clause-ended : goal.returns-clause-ended
returns-clause-ended g c =
    let p = c.requires.ready in
    handed_ends c.args.modules.now (map_of p.1.tree) c.args.store.now c.begin_in.new.store c.args.self.now (filters_are g c p) c.push-2.new.self c.push.new.self c.args.to c.args.b c.lend-name.result (top_was g c p).filter
    (next_was g c p).0
    c.lend-name.new.self (next_is g c p) p.1.ready.stands.left.stacked (hands g c p) (one_more g c p) p.1.ready.stands.left.none
