-- The filter on top is changed, and what it passed is put out.
use Rattle.std.proofs.Common.{◌≡◌, ◌≢◌, ◌==◌, ℕ, ◌+◌, ◌<◌, ◌&&◌, not, All, List, Some, true, false, is_some, length, refl, sym, ap, subst, ◌∙◌, arith}
use Rattle.std.specs.Prelude.{if◌then◌else◌, slice_get}
use Rattle.std.proofs.lemmas.List.{length-set}
use Rattle.std.specs.Global.{Vec}
use Rattle.std.specs.Vec.{with_item}
use Rattle.module_code.specs.Program.{Program}
use Rattle.module_code.specs.declared.instr.Instr.TheVariants as instr
use Rattle.run_model.specs.declared.bucket.Mark.TheVariants.{Passed}
use Rattle.run_model.specs.declared.payload.Payload.{Payload}
use Rattle.bucket_kinds.specs.Device.{Device, Held}
use Rattle.bucket_kinds.specs.declared.stored.Stored.{Stored}
use Rattle.bucket_ring.specs.declared.rings.Rings.{Ghosts}
use Rattle.run_model.specs.Chains.{module_at}
use Rattle.run_model.specs.Effects.{do_pass}
use Rattle.run_model.specs.Faults.{WHomes, wants}
use Rattle.run_model.specs.State.{Configuration, Out, items_of}
use Rattle.run_model.specs.Steps.{grows, has_bytes}
use Rattle.interp_state.proofs.Quiet.{grown_none}
use Rattle.pool_tree.specs.declared.tree.PoolTree.{PoolTree}
use Rattle.pool_tree.specs.Tree.{map_of}
use Rattle.brigade_ops.specs.declared.store.Brigades.{Brigades}
use Rattle.brigade_ops.specs.Store.{lists, pool_of, next_name, brigade_of}
use Rattle.module_run.specs.declared.conn.Conn.{Conn}
use Rattle.module_run.specs.declared.conn.Filter.{Filter}
use Rattle.interp_state.specs.declared.machine.Instance.{Instance}
use Rattle.interp_state.specs.declared.machine.Call.{Call}
use Rattle.module_run.specs.Conns.{filter_at, top_of}
use Rattle.interp_calls.specs.Delivery.{WasDelivered, out_of}
use Rattle.interp_state.specs.Ends.{EndInFiles}
use Rattle.interp_state.specs.Given.{RangeIsOpen}
use Rattle.interp_state.specs.Held.{IsHeld}
use Rattle.interp_state.specs.LeftAlone.{LeavesForeign}
use Rattle.module_run.specs.Proceeding.{CanProceed, LeftAs}
use Rattle.interp_state.specs.Seen.{seen, seen_over}
use Rattle.interp_state.specs.Slots.{live_in, marked, slot_at}
use Rattle.module_run.specs.Stacked.{named_at}
use Rattle.module_run.proofs.AtWork as work
use Rattle.module_run.proofs.CallsLeave.{ends_one, ends_unchanged, marked_name, one_leaves}
use Rattle.module_run.proofs.Neighbours.{unchanged}
use Rattle.module_run.proofs.CanPass.{passer, passed_live, passed_variable}
use Rattle.module_run.proofs.Delivers.{delivers, passed_on}
use Rattle.module_run.proofs.FileOpens.{left_device}
use Rattle.interp_state.proofs.Faultless.{met_at}
use Rattle.module_run.proofs.HandsOnBuilt.{on_err, reads_here, same_back, writes_here, writes_off}
use Rattle.interp_state.proofs.OpenFiles.{open_items}
use Rattle.module_run.proofs.Outs.{with_out}
use Rattle.module_run.proofs.Spared.{changed, left_spared}
use Rattle.module_run.proofs.Tops.{OnTop, view_of}
use Rattle.module_run.proofs.conn.Conn.pass_to_output.Given.{Over}
use Rattle.module_run.proofs.conn.Conn.pass_to_output.Goals as goal

-- the filter that passes a brigade
abbrev passing : {R : Type 0} {g : Ghosts R Stored} (b l : ℕ) (store : Brigades R g) (d : Device) (c : Conn)
    (p : (chain : List Program) × (tree : PoolTree Payload) × CanProceed chain (instr.Pass b l) tree store d c) → OnTop (lists store) c p.2.top p.2.rest
passing b l store d c p = passer p.0 b l p.1 store d c p.2.v p.2.top p.2.rest p.2.ready

-- the filter on top, as it is read before its brigade is put out
module _ (g : Over) (c : goal.After-pass_out-arg-5-1 g) where
  abbrev passes : OnTop (lists c.args.store.now) c.args.self.now c.requires.ready.2.top c.requires.ready.2.rest
  passes = passing c.args.b c.args.target c.args.store.now (g.F.Files.device c.args.files.now) c.args.self.now c.requires.ready

  passes_read : c.index_mut-filter.result.now ≡ passes.filter
  passes_read = reads_here c.args.self.now c.top-top.result c.top-top.ensures passes.filter c.index_mut-filter.result.now passes.is c.index_mut-filter.ensures.value

pub pass_out-requires-clause-slot : goal.pass_out-requires-clause-slot
pass_out-requires-clause-slot g c =
    let p = c.requires.ready.2 in
    passed_variable c.requires.ready.0 c.args.b c.args.target c.requires.ready.1 c.args.store.now (g.F.Files.device c.args.files.now) c.args.self.now p.v p.top p.rest p.ready

pub pass_out-requires-clause-live : goal.pass_out-requires-clause-live
pass_out-requires-clause-live g c =
    let p = c.requires.ready.2 in
    subst (λ (f : Filter). is_some (live_in (lists c.args.store.now) (slot_at f.instance c.args.b)) ≡ true) (sym (passes_read g c))
    (passed_live c.requires.ready.0 c.args.b c.args.target c.requires.ready.1 c.args.store.now (g.F.Files.device c.args.files.now) c.args.self.now p.v p.top p.rest p.ready)

pub pass_out-requires-clause-ends : goal.pass_out-requires-clause-ends
pass_out-requires-clause-ends g c =
    let p = c.requires.ready.2 in
    let t = passes g c in
    subst (λ (f : Filter). EndInFiles c.args.store.now f.instance) (sym (passes_read g c))
    (work.ends_in c.requires.ready.0 (instr.Pass c.args.b c.args.target) c.requires.ready.1 c.args.store.now (g.F.Files.device c.args.files.now) c.args.self.now p.v p.top p.rest p.ready t.filter t.is)

pub pass_out-requires-clause-open : goal.pass_out-requires-clause-open
pass_out-requires-clause-open g c =
    let self = c.args.self.now in
    let store = c.args.store.now in
    let d = g.F.Files.device c.args.files.now in
    let chain = c.requires.ready.0 in
    let tree = c.requires.ready.1 in
    let p = c.requires.ready.2 in
    let i = instr.Pass c.args.b c.args.target in
    let t = passes g c in
    let view = view_of (map_of tree) self p.v in
    let opens = work.open_in chain i tree store d self p.v p.top p.rest p.ready t.filter t.is view.labels view.files view.out view.waits refl in
    let homes = met_at (seen store view t.filter.instance t.filter.call) (wants (module_at chain (top_of self)) i) 1 (WHomes c.args.b)
    (work.faultless_in chain i tree store d self p.v p.top p.rest p.ready t.filter t.is view.labels view.files view.out view.waits refl) refl in (
      view,
      t.filter.call,
      subst (λ (f : Filter). All (RangeIsOpen d) (items_of ((seen store view f.instance t.filter.call).instance.brigades c.args.b))) (sym (passes_read g c))
          (open_items d (items_of ((seen store view t.filter.instance t.filter.call).instance.brigades c.args.b)) (opens.brigades c.args.b) homes),
    )

pub go_on-requires : goal.go_on-requires
go_on-requires g c =
    let p = c.requires.ready.2 in
    let d = g.F.Files.device c.args.files.now in
    let t = passing c.args.b c.args.target c.args.store.now d c.args.self.now c.requires.ready in
    subst (λ (f : Filter). f.call.pc < 1024)
    (sym (reads_here c.args.self.now c.top-top.result c.top-top.ensures t.filter c.index_mut-filter.result.now t.is c.index_mut-filter.ensures.value))
    (work.small c.requires.ready.0 (instr.Pass c.args.b c.args.target) c.requires.ready.1 c.args.store.now d c.args.self.now p.v p.top p.rest p.ready t.filter t.is)

-- Without memory the filter on top is written back as it was.
module _ (g : Over) (c : goal.After-from_residual g) where
  abbrev written_back : Vec Filter
  written_back = with_item c.args.self.now.filters c.top-top.result (record c.index_mut-filter.result.now { instance = c.pass_out.new.instance })

  as_before : written_back.items ≡ c.args.self.now.filters.items
  as_before =
      let r = c.index_mut-filter.result.now in
      same_back c.args.self.now.filters c.top-top.result r (record r { instance = c.pass_out.new.instance }) c.index_mut-filter.ensures.value
      (ap (λ (i : Instance). record r { instance = i }) c.in_err-well.ensures.same.0)

pub returns-in_err-well-clause-err : goal.returns-in_err-well-clause-err
returns-in_err-well-clause-err g c =
    on_err c.from_residual.result (λ chain tree v left.
    let self = c.args.self.now in
    let store = c.args.store.now in
    let d = g.F.Files.device c.args.files.now in
    let e = g.F.Files.device c.pass_out.new.files in
    let fs = written_back g c in
    let spared = left_spared self fs self.callers self.waits (as_before g c) refl refl chain tree store store d v (λ n. refl) refl (λ id is young. is) refl refl left in
    left_device chain tree c.pass_out.new.store d e (with_out (changed self fs self.callers self.waits) c.pass_out.new.out c.pass_out.new.ended) v
    (λ file. ap (λ (n : ℕ → Held). n file) c.pass_out.ensures.open_files)
    (subst (λ s. LeftAs chain tree s d (with_out (changed self fs self.callers self.waits) c.pass_out.new.out c.pass_out.new.ended) v) (sym c.in_err-well.ensures.same.1)
    (subst (λ (o : Out). LeftAs chain tree store d (with_out (changed self fs self.callers self.waits) o.bytes o.ended) v) (sym c.in_err-well.ensures.kept) spared)))

-- The filter on top goes on, and what it passed is put out.
module _ (g : Over) (c : goal.After-self-2-1 g)
    (p : (chain : List Program) × (tree : PoolTree Payload) × CanProceed chain (instr.Pass c.args.b c.args.target) tree c.args.store.now (g.F.Files.device c.args.files.now) c.args.self.now) where
  abbrev top_was : OnTop (lists c.args.store.now) c.args.self.now p.2.top p.2.rest
  top_was = passing c.args.b c.args.target c.args.store.now (g.F.Files.device c.args.files.now) c.args.self.now p

  abbrev top_is : Filter
  top_is = record { instance = c.pass_out.new.instance; call = c.go_on.new.self; lent = c.index_mut-filter.result.now.lent }

  abbrev conn_is : Conn
  conn_is = changed c.args.self.now (with_item c.args.self.now.filters c.top-top.result top_is) c.args.self.now.callers c.args.self.now.waits

  top_read : c.index_mut-filter.result.now ≡ top_was.filter
  top_read = reads_here c.args.self.now c.top-top.result c.top-top.ensures top_was.filter c.index_mut-filter.result.now top_was.is c.index_mut-filter.ensures.value

  within : top_of c.args.self.now < length c.args.self.now.filters.items
  within = (let n : length c.args.self.now.filters.items ≡ length p.0 + 1 = p.2.ready.stands.left.stacked.many in let lt = p.2.ready.stands.left.stacked.within in omega (arith, n, lt))

  top_after : filter_at conn_is (top_of c.args.self.now) ≡ Some top_is
  top_after = writes_here c.args.self.now c.top-top.result c.top-top.ensures top_is within

  others : (k : ℕ) → k ≢ top_of c.args.self.now → filter_at conn_is k ≡ filter_at c.args.self.now k
  others = writes_off c.args.self.now c.top-top.result c.top-top.ensures top_is within

  slots : (a : ℕ) → slot_at c.pass_out.new.instance a ≡ (if a == c.args.b then marked Passed (slot_at top_was.filter.instance c.args.b) else slot_at top_was.filter.instance a)
  slots a = subst (λ (q : Filter). slot_at c.pass_out.new.instance a ≡ (if a == c.args.b then marked Passed (slot_at q.instance c.args.b) else slot_at q.instance a)) top_read
      (c.in_ok-well.ensures.slots a)

  names : (a : ℕ) → named_at top_is a ≡ named_at top_was.filter a
  names = marked_name top_was.filter.instance c.pass_out.new.instance c.args.b slots

  call_name : top_is.call.name ≡ top_was.filter.call.name
  call_name = ap (λ (k : Call). k.name) c.go_on.ensures ∙ ap (λ (q : Filter). q.call.name) top_read

  leaves : (call : Call) → LeavesForeign c.args.store.now c.pass_out.new.store top_was.filter.instance call
  leaves call = subst (λ (q : Filter). LeavesForeign c.args.store.now c.pass_out.new.store q.instance call) top_read (c.in_ok-well.ensures.left call)

pub returns-clause-ok : goal.returns-clause-ok
returns-clause-ok g c chain tree v f rest last ready =
    let self = c.args.self.now in
    let old = c.args.store.now in
    let new = c.pass_out.new.store in
    let d = g.F.Files.device c.args.files.now in
    let e = g.F.Files.device c.pass_out.new.files in
    let b = c.args.b in
    let l = c.args.target in
    let p : (chain : List Program) × (tree : PoolTree Payload) × CanProceed chain (instr.Pass b l) tree old d self = (chain, tree, record { v = v; top = f; rest = rest; ready = ready }) in
    let x = (top_was g c p).filter in
    let i = c.pass_out.new.instance in
    let well = c.in_ok-well.well in
    let at = top_read g c p in
    let w = top_is g c p in
    let is : w ≡ passed_on chain b l tree old new d e self v f rest ready i well (with_item self.filters c.top-top.result w) c.pass_out.new.out c.pass_out.new.ended =
    ap (λ (k : Call). record w { call = k }) c.go_on.ensures
    ∙ ap (λ (q : Filter). record q { instance = i; call = record q.call { pc = if well then q.call.pc + 1 else l } }) at in
    let view = view_of (map_of tree) self v in
    let given : WasDelivered d e (out_of self.out self.ended) (items_of ((seen old view x.instance x.call).instance.brigades b)) (out_of c.pass_out.new.out c.pass_out.new.ended) well =
    subst (λ (q : Filter). WasDelivered d e (out_of self.out self.ended) (items_of ((seen old view q.instance x.call).instance.brigades b)) (out_of c.pass_out.new.out c.pass_out.new.ended) well)
    at (c.in_ok-well.ensures.delivered view x.call) in
    delivers chain b l tree old new d e self v f rest ready i well (with_item self.filters c.top-top.result w) c.pass_out.new.out c.pass_out.new.ended
    (top_after g c p ∙ ap (λ (q : Filter). Some q) is) (others g c p) (length-set self.filters.items c.top-top.result w) (slots g c p)
    (λ view call. subst (λ (q : Filter). IsHeld old q.instance call → seen new view i call ≡ do_pass b (seen old view q.instance call)) at (c.in_ok-well.ensures.passed view call))
    (λ call. subst (λ (q : Filter). IsHeld old q.instance call → IsHeld new i call) at (c.pass_out.ensures.held call))
    (leaves g c p) given.reads given.given given.told c.pass_out.ensures.open_files last

pub returns-in_err-well-clause-leaves : goal.returns-in_err-well-clause-leaves
unfolding filter_at
returns-in_err-well-clause-leaves g c ps =
    let s = c.in_err-well.ensures.same.1 in
    unchanged ps c.args.store.now c.pass_out.new.store c.args.self.now _ (λ n. ap (λ x. lists x n) s) (ap (λ x. pool_of x) s) (let e = ap (λ x. next_name x) s in omega (arith, e))
    (λ id there young. sym (ap (λ x. is_some (brigade_of x id)) s) ∙ there)
    (λ k. ap (λ (fs : List Filter). slice_get fs k) (as_before g c))

pub returns-in_err-well-clause-ended : goal.returns-in_err-well-clause-ended
unfolding filter_at
returns-in_err-well-clause-ended g c = ends_unchanged c.args.store.now c.pass_out.new.store c.args.self.now _ (λ k. ap (λ (fs : List Filter). slice_get fs k) (as_before g c))

pub returns-clause-leaves : goal.returns-clause-leaves
unfolding filter_at
returns-clause-leaves g c ps =
    let p = c.requires.ready in
    let t = top_was g c p in
    one_leaves ps c.args.store.now c.pass_out.new.store c.args.self.now _ (top_of c.args.self.now) t.filter (top_is g c p) t.is (top_after g c p) (others g c p) (call_name g c p) (names g c p)
    (leaves g c p t.filter.call)

pub returns-clause-ended : goal.returns-clause-ended
unfolding filter_at
returns-clause-ended g c =
    let p = c.requires.ready in
    let t = top_was g c p in
    ends_one c.args.store.now c.pass_out.new.store c.args.self.now _ (top_of c.args.self.now) t.filter (top_is g c p) t.is (top_after g c p) (others g c p) (call_name g c p) (names g c p 8)

pub returns-in_err-well-clause-sure : goal.returns-in_err-well-clause-sure
unfolding seen_over
returns-in_err-well-clause-sure g c chain tree v f rest ready quiet =
    let self = c.args.self.now in
    let store = c.args.store.now in
    let d = g.F.Files.device c.args.files.now in
    let b = c.args.b in
    let i = instr.Pass b c.args.target in
    let t = passer chain b c.args.target tree store d self v f rest ready in
    let at = reads_here self c.top-top.result c.top-top.ensures t.filter c.index_mut-filter.result.now t.is c.index_mut-filter.ensures.value in
    let view = view_of (map_of tree) self v in
    let same = work.config chain i tree store d self v f rest ready t.filter t.is in
    let none : (not self.ended && has_bytes (items_of ((seen store view t.filter.instance t.filter.call).instance.brigades b))) ≡ false
    = (grown_none 0 0 _ (sym (ap (λ (r : Configuration). grows r i) same) ∙ quiet)).1 in
    let sure = c.in_err-well.ensures.sure view t.filter.call
    (subst (λ (q : Filter). (not self.ended && has_bytes (items_of ((seen store view q.instance t.filter.call).instance.brigades b))) ≡ false) (sym at) none) in
    absurd (cc sure)
