-- A call returns that none waits for, and no further handler is to run.
use Rattle.std.proofs.Common.{◌≡◌, ◌≢◌, ℕ, ◌-◌, Bool, false, List, [], length, Option, Some, refl, sym, ap, subst, ◌∙◌, inl, inr, arith}
use Rattle.std.specs.Global.{Vec}
use Rattle.std.proofs.Math.Path.{fun_ext}
use Rattle.std.proofs.lemmas.Bool.{cases_eq, false≢true}
use Rattle.bucket_ring.specs.declared.rings.Rings.{Ghosts}
use Rattle.bucket_ring.specs.Kept.{NoneRevived}
use Rattle.bucket_kinds.specs.Device.{Device}
use Rattle.module_code.specs.Program.{Program}
use Rattle.module_code.specs.declared.instr.Instr.TheVariants as instr
use Rattle.module_code.specs.declared.instr.Status.{Status}
use Rattle.run_model.specs.declared.event.Stepped.TheVariants as stepped
use Rattle.run_model.specs.declared.payload.Payload.{Payload}
use Rattle.run_model.specs.Chains.{Frame, Linked, configuration, put_back}
use Rattle.run_model.specs.Passing.{next_called, returned_from}
use Rattle.run_model.specs.State as model
use Rattle.pool_tree.specs.declared.tree.PoolTree.{PoolTree}
use Rattle.pool_tree.specs.Tree.{map_of}
use Rattle.bucket_kinds.specs.declared.stored.Stored.{Stored}
use Rattle.brigade_ops.specs.declared.store.Brigades.{Brigades}
use Rattle.brigade_ops.specs.Store.{lists, brigade_of, pool_of, references, next_name}
use Rattle.module_run.specs.declared.conn.Conn.{Conn}
use Rattle.module_run.specs.declared.conn.Filter.{Filter}
use Rattle.module_run.specs.Conns.{modules_of, call_name, conn_of, counting, filter_at, runs_of, shown_filter, shown_frame, waiting}
use Rattle.interp_state.specs.Held.{IsHeld}
use Rattle.module_run.specs.Proceeding.{IsReady, RefinesReturn}
use Rattle.interp_state.specs.Seen.{is_running}
use Rattle.module_run.proofs.EndedLast.{EndsLast, each_left, idle, left_as, stays, waits_none}
use Rattle.module_run.proofs.Finishing.{led, nine, returned_so, top_first}
use Rattle.module_run.proofs.HeldStays.{held_stays}
use Rattle.module_run.proofs.Callers.{first_alone, first_below}
use Rattle.module_run.proofs.Known.{some_is}
use Rattle.module_run.proofs.LoneCalls.{HasLone, stacked_lone}

module _ {R : Type 0} {g : Ghosts R Stored} (chain : List Program) (s : Status) (tree : PoolTree Payload) (store : Brigades R g) (device : Device) (c : Conn) (v : Linked) (f : Frame)
    (rest : List Frame)
    (ready : IsReady chain (instr.Ret s) tree store device c v f rest) (none : waiting c ≡ 0) (new : Brigades R g) (filters : Vec Filter)
    (x : EndsLast (lists store) (lists new) (next_name store) c (record c { filters = filters; busy = false })) where
  abbrev d : Conn
  d = record c { filters = filters; busy = false }

  runs_none : (n : ℕ) → is_running 0 [] n ≡ runs_of d n
  runs_none n = sym (ap (λ (k : ℕ). is_running (call_name (filter_at d k)) c.waits.items n) (top_first chain s tree store device c v f rest ready none)
      ∙ (ap (λ (o : Option Filter). is_running (call_name o) c.waits.items n) x.top_after
      ∙ (ap (λ (m : ℕ). is_running m c.waits.items n) x.name
      ∙ ap (λ (ws : List ℕ). is_running 0 ws n)
      (waits_none chain (brigade_of store) (lists store) (lists new) (pool_of store) (next_name store) c d ready.stands.left.stacked (nine chain s tree store device c v f rest ready none) x))))

  each : (k : ℕ) → left_as chain (brigade_of store) (lists store) (lists new) (pool_of store) (next_name store) c d ready.stands.left.stacked
      (nine chain s tree store device c v f rest ready none) x k ≡ shown_filter (runs_of d) (lists new) (filter_at d k)
  each k = sym (each_left chain (brigade_of store) (lists store) (lists new) (pool_of store) (next_name store) c d ready.stands.left.stacked (nine chain s tree store device c v f rest ready none) x k)
      ∙ ap (λ (runs : ℕ → Bool). shown_filter runs (lists new) (filter_at d k)) (fun_ext runs_none)

  abbrev after : Linked
  after = (v.0, conn_of (map_of tree) (lists new) v.1.opened d)

  ended_is : length filters.items ≡ length c.filters.items → c.queue ≡ modules_of c
      → returned_from chain s (shown_frame (runs_of c) (lists store) c.first (Some x.top)) (v.0, conn_of (map_of tree) (lists store) v.1.opened c) ≡ (stepped.CallEnded s, after)
  unfolding returned_from put_back configuration conn_of counting
  ended_is count last =
      ap (λ (n : ℕ). next_called chain s (counting c.queue n) (built (left_as chain (brigade_of store) (lists store) (lists new) (pool_of store) (next_name store) c d ready.stands.left.stacked
      (nine chain s tree store device c v f rest ready none) x) (length c.filters.items)))
      (let e : modules_of c - c.queue ≡ 0 = omega (arith, last) in e)
      ∙ (ap (λ (is : ℕ → model.Instance). (stepped.CallEnded s, built is (length c.filters.items))) (fun_ext each)
      ∙ ap (λ (n : ℕ). (stepped.CallEnded s, built (λ k. shown_filter (runs_of d) (lists new) (filter_at d k)) n)) (sym count)) where
        built : (ℕ → model.Instance) → ℕ → Linked
        built is n = (v.0, record (conn_of (map_of tree) (lists store) v.1.opened c) { instances = is; stack = []; queue = counting c.queue ((n - 1) - c.queue) })

  name_none : ((k : ℕ) → k ≢ c.first → filter_at d k ≡ filter_at c k) → (k : ℕ) (e : Filter) → filter_at d k ≡ Some e → e.call.name ≡ 0
  name_none others k e is = elim (cases_eq k c.first) [
    | inl q ↦ ap (λ (h : Filter). h.call.name) (some_is e x.ended (sym is ∙ (ap (filter_at d) q ∙ x.top_after))) ∙ x.name
    | inr ne ↦ idle chain (brigade_of store) (lists store) (lists new) (pool_of store) (next_name store) c d ready.stands.left.stacked (nine chain s tree store device c v f rest ready none) x k e
        (sym (others k ne) ∙ is) ne
  ]

  lone : ((k : ℕ) → k ≢ c.first → filter_at d k ≡ filter_at c k) → HasLone (next_name store) c.first d
  lone others = record {
    none = none;
    top = first_alone chain c ready.stands.left.stacked.called none;
    empty = waits_none chain (brigade_of store) (lists store) (lists new) (pool_of store) (next_name store) c d ready.stands.left.stacked (nine chain s tree store device c v f rest ready none) x;
    named = λ k e is. inl (name_none others k e is);
    runs = λ k e is called. absurd (false≢true called);
    idle = λ k e is over. name_none others k e is;
  }

  held_each : next_name new ≡ next_name store → pool_of new ≡ pool_of store → NoneRevived (brigade_of store) (brigade_of new) (next_name store) → IsHeld new x.ended.instance x.ended.call
      → ((k : ℕ) → k ≢ c.first → filter_at d k ≡ filter_at c k) → (k : ℕ) (e : Filter) → filter_at d k ≡ Some e → IsHeld new e.instance e.call
  held_each next pools names held others k e is = elim (cases_eq k c.first) [
    | inl q ↦ subst (λ (h : Filter). IsHeld new h.instance h.call) (some_is x.ended e (sym x.top_after ∙ (ap (filter_at d) (sym q) ∙ is))) held
    | inr ne ↦ (let was : filter_at c k ≡ Some e = sym (others k ne) ∙ is in
        held_stays (brigade_of store) (brigade_of new) (lists store) (lists new) (pool_of store) (pool_of new) (next_name store) (next_name new) e.instance e.call (omega (arith, next)) pools names
        (stays chain (brigade_of store) (lists store) (lists new) (pool_of store) (next_name store) c d ready.stands.left.stacked (nine chain s tree store device c v f rest ready none) x k e was ne)
        (λ pos. absurd (let z = idle chain (brigade_of store) (lists store) (lists new) (pool_of store) (next_name store) c d ready.stands.left.stacked
        (nine chain s tree store device c v f rest ready none) x k e was ne in omega (arith, pos, z)))
        (ready.stands.left.stacked.held k e was))
  ]

  pub ending : length filters.items ≡ length c.filters.items → c.queue ≡ modules_of c → ((k : ℕ) → k ≢ c.first → filter_at d k ≡ filter_at c k)
      → next_name new ≡ next_name store → pool_of new ≡ pool_of store → references new ≡ references store → NoneRevived (brigade_of store) (brigade_of new) (next_name store)
      → IsHeld new x.ended.instance x.ended.call
      → RefinesReturn chain s device v f rest tree new d (stepped.CallEnded s)
  unfolding conn_of
  ending count last others next pools refs names held =
      led chain s tree store device c v f rest ready none new d x pools refs (stepped.CallEnded s) after
      (returned_so chain s tree store device c v f rest ready none x.top x.on_top ∙ ended_is count last) refl
      (record { pools = ready.stands.left.seen.pools; given = ready.stands.left.seen.given ∙ sym next; conn = refl })
      (stacked_lone chain (brigade_of store) (lists store) (lists new) (pool_of store) (next_name store) c d ready.stands.left.stacked
      (nine chain s tree store device c v f rest ready none) x c.first (lone others)
      (brigade_of new) (pool_of new) (next_name new) (count ∙ ready.stands.left.stacked.many) (let a = ready.stands.left.stacked.within in let b = first_below chain c ready.stands.left.stacked.called in omega (arith, a, b)) ready.stands.left.stacked.queue
      (held_each next pools names held others))
