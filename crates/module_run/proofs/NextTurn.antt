-- A call returns that none waits for, and the handler of a further filter is to run.
use Rattle.std.proofs.Common.{◌≡◌, ◌≢◌, ◌⊎◌, ℕ, suc, ◌+◌, ◌-◌, ◌<◌, ◌≤◌, Bool, true, false, List, [], ◌∷◌, length, Option, Some, is_some, refl, sym, ap, subst, ◌∙◌, inl, inr, arith}
use Rattle.std.specs.Prelude.{if◌then◌else◌}
use Rattle.std.specs.Global.{Vec}
use Rattle.std.proofs.Math.Path.{fun_ext}
use Rattle.std.proofs.lemmas.Bool.{cases_eq, false≢true}
use Rattle.bucket_ring.specs.declared.rings.Rings.{Ghosts}
use Rattle.bucket_ring.specs.Kept.{NoneRevived}
use Rattle.bucket_kinds.specs.Device.{Device}
use Rattle.module_code.specs.Program.{Program}
use Rattle.module_code.specs.declared.instr.Instr.TheVariants as instr
use Rattle.module_code.specs.declared.instr.Status.{Status}
use Rattle.run_model.specs.declared.event.Stepped.TheVariants as stepped
use Rattle.run_model.specs.declared.payload.Payload.{Payload}
use Rattle.run_model.specs.Chains.{Frame, Linked, configuration, module_at, put_back}
use Rattle.run_model.specs.Passing.{handler_at, next_called, returned_from}
use Rattle.run_model.specs.State as model
use Rattle.run_model.specs.State.{fresh_call}
use Rattle.pool_tree.specs.declared.tree.PoolTree.{PoolTree}
use Rattle.pool_tree.specs.Tree.{map_of}
use Rattle.bucket_kinds.specs.declared.stored.Stored.{Stored}
use Rattle.brigade_ops.specs.declared.store.Brigades.{Brigades}
use Rattle.brigade_ops.specs.Store.{lists, brigade_of, pool_of, references, next_name}
use Rattle.module_run.specs.declared.conn.Conn.{Conn}
use Rattle.module_run.specs.declared.conn.Filter.{Filter}
use Rattle.interp_state.specs.declared.machine.Instance.{Instance}
use Rattle.interp_state.specs.declared.machine.CursorValue.TheVariants as stand
use Rattle.interp_calls.specs.Begun.{IsBegun}
use Rattle.module_run.specs.Conns.{modules_of, call_name, conn_of, counting, filter_at, runs_of, shown_filter, shown_frame, stack_of, stack_over, top_of, waiting}
use Rattle.interp_state.specs.Held.{IsHeld}
use Rattle.module_run.specs.Proceeding.{IsReady, RefinesReturn}
use Rattle.interp_state.specs.Seen.{is_running}
use Rattle.module_run.specs.Stacked.{is_called}
use Rattle.module_run.proofs.EndedLast.{EndsLast, each_left, idle, left_as, stays, stays_after, waits_none}
use Rattle.module_run.proofs.Finishing.{led, new_free, nine, returned_so}
use Rattle.module_run.proofs.HeldStays.{held_stays}
use Rattle.module_run.proofs.Callers.{alone_called, called_top, no_callers}
use Rattle.module_run.proofs.Known.{some_is}
use Rattle.module_run.proofs.LoneCalls.{HasLone, stacked_lone}
use Rattle.module_run.proofs.NextCall.{filter_begun, frame_begun}
use Rattle.module_run.proofs.Tops.{frame_at}

-- the connection whose next filter has its turn
abbrev pub turned : Conn → Vec Filter → Conn
turned c filters = record c { filters = filters; first = c.queue; top = c.queue; queue = c.queue + 1 }

-- The call of the filter that is next began: it was `before`, and is `begun`.
pub record Turns (chain : List Program) (next : ℕ) (c d : Conn) : Type 0 where
  pub before : Filter
  pub begun : Filter
  pub later : c.first < c.queue
  pub within : c.queue < modules_of c
  pub was : filter_at c c.queue ≡ Some before
  pub now : filter_at d c.queue ≡ Some begun
  pub instance : begun.instance ≡ before.instance
  pub call : IsBegun next (handler_at c.req (module_at chain c.queue)) begun.call
  pub others : (k : ℕ) → k ≢ c.first → k ≢ c.queue → filter_at d k ≡ filter_at c k
  pub count : length d.filters.items ≡ length c.filters.items

module _ {R : Type 0} {g : Ghosts R Stored} (chain : List Program) (s : Status) (tree : PoolTree Payload) (store : Brigades R g) (device : Device) (c : Conn) (v : Linked) (f : Frame)
    (rest : List Frame)
    (ready : IsReady chain (instr.Ret s) tree store device c v f rest) (none : waiting c ≡ 0) (new : Brigades R g) (filters : Vec Filter)
    (x : EndsLast (lists store) (lists new) (next_name store) c (turned c filters)) (y : Turns chain (next_name store) c (turned c filters)) (empty : lists new (next_name store) ≡ Some []) where
  abbrev d : Conn
  d = turned c filters

  turn_top : top_of d ≡ c.queue
  turn_top = refl

  no_waits : c.waits.items ≡ []
  no_waits = waits_none chain (brigade_of store) (lists store) (lists new) (pool_of store) (next_name store) c d ready.stands.left.stacked (nine chain s tree store device c v f rest ready none) x

  runs_one : (n : ℕ) → is_running (next_name store) [] n ≡ runs_of d n
  runs_one n = sym (ap (λ (k : ℕ). is_running (call_name (filter_at d k)) c.waits.items n) turn_top
      ∙ (ap (λ (o : Option Filter). is_running (call_name o) c.waits.items n) y.now
      ∙ (ap (λ (m : ℕ). is_running m c.waits.items n) y.call.named
      ∙ ap (λ (ws : List ℕ). is_running (next_name store) ws n) no_waits)))

  each : (k : ℕ) → left_as chain (brigade_of store) (lists store) (lists new) (pool_of store) (next_name store) c d ready.stands.left.stacked
      (nine chain s tree store device c v f rest ready none) x k ≡ shown_filter (runs_of d) (lists new) (filter_at d k)
  each k = sym (each_left chain (brigade_of store) (lists store) (lists new) (pool_of store) (next_name store) c d ready.stands.left.stacked (nine chain s tree store device c v f rest ready none) x k)
      ∙ (sym (filter_begun store (lists new) (filter_at d k) (λ e is. stays_after chain (brigade_of store) (lists store) (lists new) (pool_of store) (next_name store) c d ready.stands.left.stacked
      (nine chain s tree store device c v f rest ready none) x k e is))
      ∙ ap (λ (runs : ℕ → Bool). shown_filter runs (lists new) (filter_at d k)) (fun_ext runs_one))

  abbrev next_frame : ℕ → Frame
  next_frame n = record { of = c.queue; call = fresh_call n; pc = handler_at c.req (module_at chain c.queue) }

  stack_is : stack_of (lists new) d ≡ next_frame (next_name store) ∷ []
  unfolding stack_over
  stack_is = ap (λ (b : Bool). if b then frame_at (lists new) d c.queue ∷ stack_over (frame_at (lists new) d) c.callers.items else []) x.busy
      ∙ (ap (λ (ks : List ℕ). frame_at (lists new) d c.queue ∷ stack_over (frame_at (lists new) d) ks) (no_callers c.callers.items none)
      ∙ ap (λ (h : Frame). h ∷ []) ((ap (shown_frame (runs_of d) (lists new) c.queue) y.now
      ∙ frame_begun (runs_of d) (lists new) c.queue (next_name store) (handler_at c.req (module_at chain c.queue)) y.begun y.call empty)))

  abbrev after : Linked
  after = (record v.0 { next = v.0.next + 1 }, conn_of (map_of tree) (lists new) v.1.opened d)

  turned_is : returned_from chain s (shown_frame (runs_of c) (lists store) c.first (Some x.top)) (v.0, conn_of (map_of tree) (lists store) v.1.opened c) ≡ (stepped.Went, after)
  unfolding returned_from put_back configuration conn_of counting
  turned_is =
      let left = left_as chain (brigade_of store) (lists store) (lists new) (pool_of store) (next_name store) c d ready.stands.left.stacked (nine chain s tree store device c v f rest ready none) x in
      let more = modules_of c - (c.queue + 1) in
      ap (λ (n : ℕ). next_called chain s (counting c.queue n) (v.0, record (conn_of (map_of tree) (lists store) v.1.opened c) { instances = left; stack = [] }))
      (let e : modules_of c - c.queue ≡ suc more = (let w = y.within in omega (arith, w)) in e)
      ∙ (ap (λ (is : ℕ → model.Instance). (stepped.Went, built is (next_frame v.0.next ∷ []) (suc c.queue) more)) (fun_ext each)
      ∙ (ap (λ (n : ℕ). (stepped.Went, built (λ k. shown_filter (runs_of d) (lists new) (filter_at d k)) (next_frame n ∷ []) (suc c.queue) more)) ready.stands.left.seen.given
      ∙ (ap (λ (fs : List Frame). (stepped.Went, built (λ k. shown_filter (runs_of d) (lists new) (filter_at d k)) fs (suc c.queue) more)) (sym stack_is)
      ∙ (ap (λ (n : ℕ). (stepped.Went, built (λ k. shown_filter (runs_of d) (lists new) (filter_at d k)) (stack_of (lists new) d) n more)) (let e : suc c.queue ≡ c.queue + 1 = omega arith in e)
      ∙ ap (λ (n : ℕ). (stepped.Went, built (λ k. shown_filter (runs_of d) (lists new) (filter_at d k)) (stack_of (lists new) d) (c.queue + 1) ((n - 1) - (c.queue + 1)))) (sym y.count))))) where
        built : (ℕ → model.Instance) → List Frame → ℕ → ℕ → Linked
        built is fs k n = (record v.0 { next = v.0.next + 1 }, record (conn_of (map_of tree) (lists store) v.1.opened c) { instances = is; stack = fs; queue = counting k n })

  apart : c.first ≢ c.queue
  apart e = (let l = y.later in omega (arith, l, e))

  idle_name : (k : ℕ) (e : Filter) → filter_at d k ≡ Some e → k ≢ c.queue → e.call.name ≡ 0
  idle_name k e is off = elim (cases_eq k c.first) [
    | inl q ↦ ap (λ (h : Filter). h.call.name) (some_is e x.ended (sym is ∙ (ap (filter_at d) q ∙ x.top_after))) ∙ x.name
    | inr ne ↦ idle chain (brigade_of store) (lists store) (lists new) (pool_of store) (next_name store) c d ready.stands.left.stacked (nine chain s tree store device c v f rest ready none) x k e
        (sym (y.others k ne off) ∙ is) ne
  ]

  new_name : (k : ℕ) (e : Filter) → filter_at d k ≡ Some e → k ≡ c.queue → e.call.name ≡ next_name store
  new_name k e is q = ap (λ (h : Filter). h.call.name) (some_is e y.begun (sym is ∙ (ap (filter_at d) q ∙ y.now))) ∙ y.call.named

  lone : HasLone (next_name store) c.queue d
  lone = record {
    none = none;
    top = refl;
    empty = no_waits;
    named = named;
    runs = runs;
    idle = over;
  } where
    named : (k : ℕ) (e : Filter) → filter_at d k ≡ Some e → (e.call.name ≡ 0) ⊎ ((k ≡ c.queue) × (next_name store ≤ e.call.name))
    named k e is = elim (cases_eq k c.queue) [
      | inl q ↦ inr (q, (let n = new_name k e is q in omega (arith, n)))
      | inr ne ↦ inl (idle_name k e is ne)
    ]

    runs : (k : ℕ) (e : Filter) → filter_at d k ≡ Some e → is_called d k ≡ true → 0 < e.call.name
    runs k e is called = elim (cases_eq k c.queue) [
      | inl q ↦ (let n = new_name k e is q in let p = (ready.stands.left.stacked.held c.first x.top x.on_top).called in omega (arith, n, p))
      | inr ne ↦ absurd (ne (alone_called d none k called))
    ]

    over : (k : ℕ) (e : Filter) → filter_at d k ≡ Some e → is_called d k ≡ false → e.call.name ≡ 0
    over k e is rests = elim (cases_eq k c.queue) [
      | inl q ↦ absurd (false≢true (sym rests ∙ (ap (is_called d) q ∙ called_top d x.busy)))
      | inr ne ↦ idle_name k e is ne
    ]

  module _ (next : next_name new ≡ next_name store + 1) (pools : pool_of new ≡ pool_of store) (names : NoneRevived (brigade_of store) (brigade_of new) (next_name store))
      (held : IsHeld new x.ended.instance x.ended.call) where
    held_idle : (k : ℕ) (e : Filter) → filter_at c k ≡ Some e → k ≢ c.first → IsHeld new e.instance e.call
    held_idle k e was ne =
        held_stays (brigade_of store) (brigade_of new) (lists store) (lists new) (pool_of store) (pool_of new) (next_name store) (next_name new) e.instance e.call (omega (arith, next)) pools names
        (stays chain (brigade_of store) (lists store) (lists new) (pool_of store) (next_name store) c d ready.stands.left.stacked (nine chain s tree store device c v f rest ready none) x k e was ne)
        (λ pos. absurd (let z = idle chain (brigade_of store) (lists store) (lists new) (pool_of store) (next_name store) c d ready.stands.left.stacked
        (nine chain s tree store device c v f rest ready none) x k e was ne in omega (arith, pos, z)))
        (ready.stands.left.stacked.held k e was)

    held_begun : IsHeld new y.begun.instance y.begun.call
    held_begun = subst (λ (i : Instance). IsHeld new i y.begun.call) (sym y.instance) (record {
      apart = h.apart;
      loose = λ b e. (let a = (ready.stands.left.stacked.held c.queue y.before y.was).named b y.begun.call.name e in let n = y.call.named in omega (arith, a, n));
      given = λ n id e. absurd (let z : stand.Unset ≡ stand.At id = sym (y.call.cursors n) ∙ e in cc);
      named = h.named;
      real = h.real;
      called = (let n = y.call.named in omega (arith, n, next));
      runs = λ pos. ap (λ (n : ℕ). is_some (lists new n)) y.call.named ∙ ap is_some empty;
      free = ap (λ (p : ℕ → Option ℕ). p y.begun.call.name) pools ∙ (ap (pool_of store) y.call.named ∙ new_free chain s tree store device c v f rest ready none);
      on = h.on;
      incoming = h.incoming;
    }) where
      h : IsHeld new y.before.instance y.before.call
      h = held_idle c.queue y.before y.was (λ e. apart (sym e))

    held_each : (k : ℕ) (e : Filter) → filter_at d k ≡ Some e → IsHeld new e.instance e.call
    held_each k e is = elim (cases_eq k c.first) [
      | inl q ↦ subst (λ (h : Filter). IsHeld new h.instance h.call) (some_is x.ended e (sym x.top_after ∙ (ap (filter_at d) (sym q) ∙ is))) held
      | inr ne ↦ (elim (cases_eq k c.queue) [
        | inl q ↦ subst (λ (h : Filter). IsHeld new h.instance h.call) (some_is y.begun e (sym y.now ∙ (ap (filter_at d) (sym q) ∙ is))) held_begun
        | inr off ↦ held_idle k e (sym (y.others k ne off) ∙ is) ne
      ])
    ]

    pub turning : references new ≡ references store → RefinesReturn chain s device v f rest tree new d stepped.Went
    unfolding conn_of
    turning refs =
        led chain s tree store device c v f rest ready none new d x pools refs stepped.Went after
        (returned_so chain s tree store device c v f rest ready none x.top x.on_top ∙ turned_is) refl
        (record { pools = ready.stands.left.seen.pools; given = ap (λ (n : ℕ). n + 1) ready.stands.left.seen.given ∙ sym next; conn = refl })
        (stacked_lone chain (brigade_of store) (lists store) (lists new) (pool_of store) (next_name store) c d ready.stands.left.stacked
        (nine chain s tree store device c v f rest ready none) x c.queue lone
        (brigade_of new) (pool_of new) (next_name new) (y.count ∙ ready.stands.left.stacked.many) (let a = y.within in let b = ready.stands.left.stacked.many in omega (arith, a, b))
        (let a = y.within in let b = ready.stands.left.stacked.many in omega (arith, a, b))
        held_each)
