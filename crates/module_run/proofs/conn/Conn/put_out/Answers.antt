-- By the brigade that was brought, and what the return leaves.
use Rattle.std.proofs.Common.{◌≡◌, ℕ, Bool, false, not, ◌&&◌, List, [], ◌∷◌, All, length, refl, sym, ap, subst, ◌∙◌}
use Rattle.std.specs.Prelude.{is_ok}
use Rattle.std.proofs.lemmas.Bool.{false≢true}
use Rattle.module_code.specs.declared.instr.Instr.TheVariants as instr
use Rattle.module_code.specs.declared.instr.Status.{Status}
use Rattle.bucket_kinds.specs.Device.{Held}
use Rattle.run_model.specs.declared.event.Stepped.{Stepped}
use Rattle.run_model.specs.Chains.{Frame, is_last}
use Rattle.run_model.specs.State.{Out, items_of}
use Rattle.run_model.specs.Steps.{has_bytes}
use Rattle.run_model.specs.Turns.{calls_of}
use Rattle.pool_tree.specs.Tree.{map_of}
use Rattle.brigade_ops.specs.Store.{lists}
use Rattle.interp_state.specs.Ends.{EndInFiles}
use Rattle.interp_state.specs.Given.{RangeIsOpen}
use Rattle.interp_state.specs.Seen.{seen}
use Rattle.interp_state.specs.Slots.{name_in, slot_at}
use Rattle.interp_calls.specs.Delivery.{WasDelivered, out_of}
use Rattle.module_run.specs.declared.conn.Filter.{Filter}
use Rattle.module_run.specs.Conns.{filter_at}
use Rattle.module_run.specs.Proceeding.{LeftAs, RefinesStep}
use Rattle.module_run.proofs.AtWork as work
use Rattle.module_run.proofs.Callers.{first_alone}
use Rattle.module_run.proofs.CallsLeave.{ends_from, ends_unchanged, leaves_from}
use Rattle.module_run.proofs.HandsOnBuilt.{on_err, reads_here}
use Rattle.module_run.proofs.Neighbours.{unmoved}
use Rattle.module_run.proofs.Outs.{with_out}
use Rattle.module_run.proofs.PutsOut.{none_out, puts, ready_put}
use Rattle.module_run.proofs.TopFilter.{at_output, none_due, on_top_of}
use Rattle.module_run.proofs.Tops.{OnTop, view_of}
use Rattle.module_run.proofs.FileOpens.{left_device}
use Rattle.module_run.proofs.WholeOpen.{whole_open}
use Rattle.module_run.proofs.conn.Conn.put_out.Given.{Over}
use Rattle.module_run.proofs.conn.Conn.put_out.Goals as goal

-- no handler is called where none is due
none_called : (last : Bool) (s : Status) (rest : List Frame) (queue : List ℕ) → queue ≡ [] → calls_of last (instr.Ret s) rest queue ≡ 0
none_called last s [] queue none = ap (λ (ks : List ℕ). calls_of last (instr.Ret s) [] ks) none
none_called last s (f ∷ fs) queue none = refl

-- the output filter, as it is read
module _ (g : Over) (c : goal.After-put_out-arg-3-1 g) where
  abbrev outs : OnTop (lists c.args.store.now) c.args.self.now c.requires.ready.1.top c.requires.ready.1.rest
  outs = on_top_of c.args.modules.now (instr.Ret c.args.status) c.requires.ready.0 c.args.store.now (g.F.Files.device c.args.files.now) c.args.self.now c.requires.ready.1.v c.requires.ready.1.top
      c.requires.ready.1.rest c.requires.ready.1.ready

  outs_read : c.index-filter.result.now ≡ outs.filter
  outs_read = reads_here c.args.self.now c.top-top.result c.top-top.ensures outs.filter c.index-filter.result.now outs.is c.index-filter.ensures

pub put_out-requires-clause-there : goal.put_out-requires-clause-there
put_out-requires-clause-there g c m named =
    let p = c.requires.ready.1 in
    let s = p.ready.stands.left.stacked in
    let alone = ap (λ (ks : List ℕ). length ks) (s.called.outer c.requires.output) in
    let first = first_alone c.args.modules.now c.args.self.now s.called alone in
    (s.brought m (outs g c).filter (ap (filter_at c.args.self.now) (sym first) ∙ (outs g c).is) (ap (λ (f : Filter). name_in (slot_at f.instance 8)) (sym (outs_read g c)) ∙ named)).1

pub put_out-requires-clause-ends : goal.put_out-requires-clause-ends
put_out-requires-clause-ends g c =
    let p = c.requires.ready.1 in
    subst (λ (f : Filter). EndInFiles c.args.store.now f.instance) (sym (outs_read g c))
    (work.ends_in c.args.modules.now (instr.Ret c.args.status) c.requires.ready.0 c.args.store.now (g.F.Files.device c.args.files.now) c.args.self.now p.v p.top p.rest p.ready (outs g c).filter (outs g c).is)

pub put_out-requires-clause-open : goal.put_out-requires-clause-open
put_out-requires-clause-open g c =
    let self = c.args.self.now in
    let store = c.args.store.now in
    let d = g.F.Files.device c.args.files.now in
    let p = c.requires.ready.1 in
    let t = outs g c in
    let view = view_of (map_of c.requires.ready.0) self p.v in (
      view,
      t.filter.call,
      subst (λ (f : Filter). All (RangeIsOpen d) (items_of ((seen store view f.instance t.filter.call).instance.brigades 8))) (sym (outs_read g c))
          (whole_open c.args.modules.now (instr.Ret c.args.status) c.requires.ready.0 store d self p.v p.top p.rest p.ready t.filter t.is c.requires.output),
    )

pub returns-in_err-well-clause-err : goal.returns-in_err-well-clause-err
returns-in_err-well-clause-err g c =
    on_err c.from_residual.result (λ tree v left.
    left_device c.args.modules.now tree c.args.store.now (g.F.Files.device c.args.files.now) (g.F.Files.device c.put_out.new.files) (with_out c.args.self.now c.put_out.new.out c.put_out.new.ended) v
    (λ file. ap (λ (n : ℕ → Held). n file) c.put_out.ensures.open_files)
    (subst (λ (o : Out). LeftAs c.args.modules.now tree c.args.store.now (g.F.Files.device c.args.files.now) (with_out c.args.self.now o.bytes o.ended) v) (sym c.in_err-well.ensures.kept) left))

pub returns-in_err-well-clause-leaves : goal.returns-in_err-well-clause-leaves
unfolding filter_at
returns-in_err-well-clause-leaves g c ps = unmoved ps c.args.store.now c.args.self.now _ (λ k. refl)

pub returns-in_err-well-clause-ended : goal.returns-in_err-well-clause-ended
unfolding filter_at
returns-in_err-well-clause-ended g c = ends_unchanged c.args.store.now c.args.store.now c.args.self.now _ (λ k. refl)

pub returns-in_err-well-clause-sure : goal.returns-in_err-well-clause-sure
returns-in_err-well-clause-sure g c tree v f rest ready quiet =
    let chain = c.args.modules.now in
    let store = c.args.store.now in
    let self = c.args.self.now in
    let d = g.F.Files.device c.args.files.now in
    let i = instr.Ret c.args.status in
    let t = on_top_of chain i tree store d self v f rest ready in
    let at = reads_here self c.top-top.result c.top-top.ensures t.filter c.index-filter.result.now t.is c.index-filter.ensures in
    let view = view_of (map_of tree) self v in
    let none = none_out chain c.args.status tree store d d self v f rest ready self.out self.ended refl t.filter t.is (at_output chain i tree store d self v f rest ready c.requires.output) quiet in
    let sure = c.in_err-well.ensures.sure view t.filter.call
    (subst (λ (q : Filter). (not self.ended && has_bytes (items_of ((seen store view q.instance t.filter.call).instance.brigades 8))) ≡ false) (sym at) none) in
    absurd (cc sure)

-- It may return, once the bytes are put out.
pub return_call-requires : goal.return_call-requires
return_call-requires g c =
    let p = c.requires.ready in
    record {
      ready = (
        p.0,
        g.F.Files.device c.put_out.new.files,
        record {
          v = (p.1.v.0, record p.1.v.1 { out = out_of c.put_out.new.out c.put_out.new.ended });
          top = p.1.top;
          rest = p.1.rest;
          ready = ready_put c.args.modules.now c.args.status p.0 c.args.store.now (g.F.Files.device c.args.files.now) (g.F.Files.device c.put_out.new.files) c.args.self.now p.1.v p.1.top p.1.rest
              p.1.ready c.put_out.new.out c.put_out.new.ended c.put_out.ensures.open_files;
        },
      );
    }

pub unreachable-requires : goal.unreachable-requires
unreachable-requires g c =
    let p = c.requires.ready in
    let chain = c.args.modules.now in
    let d = g.F.Files.device c.args.files.now in
    let e = g.F.Files.device c.put_out.new.files in
    let ready = ready_put chain c.args.status p.0 c.args.store.now d e c.args.self.now p.1.v p.1.top p.1.rest p.1.ready c.put_out.new.out c.put_out.new.ended c.put_out.ensures.open_files in
    let none = none_due chain (instr.Ret c.args.status) p.0 c.args.store.now d c.args.self.now p.1.v p.1.top p.1.rest p.1.ready c.requires.output in
    let sure = c.return_call.ensures.sure p.0 e (p.1.v.0, record p.1.v.1 { out = out_of c.put_out.new.out c.put_out.new.ended }) p.1.top p.1.rest ready
    (none_called (is_last chain p.1.v.1 p.1.top.of) c.args.status p.1.rest p.1.v.1.queue none) in
    absurd (false≢true (sym (ap is_ok c.in_default.is) ∙ sure))

pub returns-clause-leaves : goal.returns-clause-leaves
unfolding filter_at
returns-clause-leaves g c ps = leaves_from ps c.args.store.now c.return_call.new.store (with_out c.args.self.now c.put_out.new.out c.put_out.new.ended) c.args.self.now c.return_call.new.self refl (λ k. refl)
    (c.return_call.ensures.leaves ps)

pub returns-clause-ended : goal.returns-clause-ended
unfolding filter_at
returns-clause-ended g c = ends_from c.args.store.now c.return_call.new.store (with_out c.args.self.now c.put_out.new.out c.put_out.new.ended) c.args.self.now c.return_call.new.self (λ k. refl)
    c.return_call.ensures.ended

pub returns-clause-ok : goal.returns-clause-ok
returns-clause-ok g c tree v f rest ready =
    let chain = c.args.modules.now in
    let store = c.args.store.now in
    let self = c.args.self.now in
    let d = g.F.Files.device c.args.files.now in
    let e = g.F.Files.device c.put_out.new.files in
    let i = instr.Ret c.args.status in
    let well = c.in_ok-well.well in
    let t = on_top_of chain i tree store d self v f rest ready in
    let at = reads_here self c.top-top.result c.top-top.ensures t.filter c.index-filter.result.now t.is c.index-filter.ensures in
    let view = view_of (map_of tree) self v in
    let w : WasDelivered d e (out_of self.out self.ended) (items_of ((seen store view t.filter.instance t.filter.call).instance.brigades 8)) (out_of c.put_out.new.out c.put_out.new.ended) well =
    subst (λ (q : Filter). WasDelivered d e (out_of self.out self.ended) (items_of ((seen store view q.instance t.filter.call).instance.brigades 8)) (out_of c.put_out.new.out c.put_out.new.ended) well)
    at (c.in_ok-well.ensures.delivered view t.filter.call) in
    let after = ready_put chain c.args.status tree store d e self v f rest ready c.put_out.new.out c.put_out.new.ended c.put_out.ensures.open_files in
    subst (λ (a : Stepped). RefinesStep chain i d e v f rest tree c.return_call.new.store c.return_call.new.self a) (sym c.answered.ensures)
    (puts chain c.args.status tree store d e self v f rest ready c.put_out.new.out c.put_out.new.ended c.put_out.ensures.open_files t.filter t.is well w.reads w.given w.told
    (at_output chain i tree store d self v f rest ready c.requires.output) c.return_call.new.store c.return_call.new.self c.in-Ok.stepped
    (c.in-Ok.ensures.leads tree e (v.0, record v.1 { out = out_of c.put_out.new.out c.put_out.new.ended }) f rest after))
