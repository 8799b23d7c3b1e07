-- By what the end of the pool hands on, and what of its calls is ended.
use Rattle.module_code.specs.Program.{Program}
use Rattle.module_run.proofs.Callers.{first_below}
use Rattle.std.proofs.Common.{◌≡◌, ℕ, ◌+◌, ◌<◌, List, length, Option, Some, None, is_some, ◌++◌, refl, sym, ap, subst, ◌∙◌, inr, arith}
use Rattle.std.proofs.lemmas.Option.{slice_get_read}
use Rattle.std.proofs.lemmas.Result.{err_from_is_err_and}
use Rattle.bucket_kinds.specs.Device.{Device}
use Rattle.bucket_ring.specs.Lists as ring
use Rattle.run_model.specs.declared.payload.Payload.{Payload}
use Rattle.run_model.specs.Files.{is_referred}
use Rattle.run_model.specs.Payloads.{labels_in}
use Rattle.pool_tree.specs.Tree.{map_of}
use Rattle.pool_tree.proofs.Trees.{tree_formed}
use Rattle.brigade_ops.specs.House.{AreOpen}
use Rattle.brigade_ops.specs.Store.{lists, next_name}
use Rattle.brigade_ops.proofs.Stores.{same_brigade}
use Rattle.interp_state.proofs.Changes.{ring_here, ring_off}
use Rattle.module_run.specs.declared.conn.Conn.{Conn}
use Rattle.module_run.specs.declared.conn.Filter.{Filter}
use Rattle.module_run.specs.Conns.{filter_at, labels_handed, top_of}
use Rattle.module_run.specs.Proceeding.{LeftAs}
use Rattle.module_run.specs.Stacked.{named_at, AreCalled}
use Rattle.module_run.proofs.Alongside.{left_relabelled}
use Rattle.module_run.proofs.Known.{some_is}
use Rattle.module_run.proofs.Leaving.{all_gone, conn_below, free_calls, house_ended, leaving, none_cleared, none_kept, off_still}
use Rattle.module_run.proofs.Neighbours.{rises_by, unchanged, unmoved}
use Rattle.module_run.proofs.RequestBegins.{conn_live}
use Rattle.module_run.proofs.RequestEnds.{closed_labels}
use Rattle.module_run.proofs.Unchanged.{left_same}
use Rattle.module_run.proofs.Unreferred.{same_device, unreferred_stays}
use Rattle.interp_exec.specs.declared.labels_run.LabelsRun.{LabelsRun}
use Rattle.module_run.proofs.conn.Conn.destroy_all.Goals as goal

first_within : (chain : List Program) (c : Conn) (many : ℕ) → AreCalled chain c → top_of c < many → length c.filters.items ≡ many → c.first < length c.filters.items
first_within chain c many called lt same = (let low = first_below chain c called in omega (arith, low, lt, same))

pub clear-requires-clause-live : goal.clear-requires-clause-live
clear-requires-clause-live g c = (let s = c.requires.stands in conn_live s.0 c.args.tree.now c.args.store.now (g.F.Files.device c.args.files.now) c.args.self.now s.1.linked s.1.so)

pub clear-requires-clause-below : goal.clear-requires-clause-below
clear-requires-clause-below g c = λ kind. (let s = c.requires.stands in conn_below s.0 c.args.tree.now c.args.store.now (g.F.Files.device c.args.files.now) c.args.self.now s.1.linked s.1.so)

pub end_calls-requires : goal.end_calls-requires
unfolding filter_at
end_calls-requires g c = (let s = c.requires.stands in record {
  free = free_calls s.0 c.args.tree.now c.args.store.now (g.F.Files.device c.args.files.now) c.args.self.now s.1.linked s.1.so c.clear.new.self c.in_ok-ran.ensures.out c.in_ok-ran.ensures.off;
})

pub end_brigade-requires : goal.end_brigade-requires
unfolding filter_at
end_brigade-requires g c =
    let s = c.requires.stands in
    let stacked = s.1.so.left.stacked in
    let self = c.args.self.now in
    let within : self.first < length self.filters.items = first_within s.0 self (length s.0 + 1) stacked.called stacked.within stacked.many in
    let was = stacked.brought c.in-Some.name c.index.result.now (slice_get_read self.filters.items (length self.filters.items) self.first c.index.result.now refl within c.index.ensures)
    (sym c.incoming.ensures ∙ c.in-Some.is) in
    record {
      free = ap (λ (f : ℕ → Option ℕ). f c.in-Some.name) c.end_calls.ensures.pools
          ∙ off_still s.0 c.args.tree.now c.args.store.now
          (g.F.Files.device c.args.files.now) self s.1.linked s.1.so c.clear.new.self c.in_ok-ran.ensures.out c.in_ok-ran.ensures.off c.in-Some.name was.0;
    }

pub returns-in_err-reserve : goal.returns-in_err-reserve
unfolding filter_at
returns-in_err-reserve g c =
    let p = err_from_is_err_and c.from_residual.result c.from_residual.ensures.1 in
    let left = c.requires.stands.1.so.left in
    rw p.1 (record {
      labels = tt;
      pools = tt;
      gone = tt;
      next = refl;
      closed = tt;
      unreferred = λ file none. refl;
      others = same_device (g.F.Files.device c.args.files.now);
      leaves = unmoved (map_of c.args.tree.now) c.args.store.now c.args.self.now _ (λ k. refl);
      none = left.none;
      house = left.house;
      references = left.references;
      rest = refl;
      err = λ chain v left. left_relabelled chain c.args.tree.now c.args.store.now (g.F.Files.device c.args.files.now) c.args.self.now v c.reserve.new.self c.reserve.ensures.items left;
      unread = refl;
    })

pub returns-in_err-ran : goal.returns-in_err-ran
unfolding filter_at
returns-in_err-ran g c =
    let p = err_from_is_err_and c.from_residual-in_err-ran.result c.from_residual-in_err-ran.ensures.1 in
    let e = c.in_err-ran.ensures in
    let l = c.clear.ensures in
    let next = l.next in
    let d = g.F.Files.device c.args.files.now in
    rw p.1 (record {
      labels = tt;
      pools = tt;
      gone = tt;
      next = next;
      closed = tt;
      unreferred = λ file none. ap (λ (d : Device). d.numbered file) e.unread;
      others = l.others;
      leaves = unchanged (map_of c.args.tree.now) c.args.store.now c.clear.new.self c.args.self.now _ e.err e.pools (rises_by next)
          (λ id there young. sym (ap is_some (same_brigade c.args.store.now c.clear.new.self e.err id)) ∙ there) (λ k. refl);
      none = e.err 0 ∙ c.requires.stands.1.so.left.none;
      house = l.house;
      references = l.open;
      rest = refl;
      err = λ chain v left. subst (λ (x : Device). LeftAs chain c.clear.new.tree c.clear.new.self x (record c.args.self.now { labels = c.reserve.new.self }) v) (sym e.unread)
          (left_relabelled chain c.clear.new.tree c.clear.new.self d c.args.self.now v c.reserve.new.self c.reserve.ensures.items
          (left_same c.args.store.now c.clear.new.self e.err l.next e.pools chain c.args.tree.now c.clear.new.tree d c.args.self.now v e.kept e.uncounted left));
      unread = e.unread;
    })

pub returns-in-Some : goal.returns-in-Some
unfolding filter_at
returns-in-Some g c =
    let s = c.requires.stands in
    let self = c.args.self.now in
    let tree = c.args.tree.now in
    let store = c.args.store.now in
    let device = g.F.Files.device c.args.files.now in
    let new = g.F.Files.device c.clear.new.files in
    let ran = c.in_ok-ran.ensures in
    let l = c.end_calls.ensures in
    let d = c.clear.ensures in
    let next = d.next in
    let within : self.first < length self.filters.items = first_within s.0 self (length s.0 + 1) s.1.so.left.stacked.called s.1.so.left.stacked.within s.1.so.left.stacked.many in
    let here = slice_get_read self.filters.items (length self.filters.items) self.first c.index.result.now refl within c.index.ensures in
    let e = c.end_brigade.ensures in
    let was = s.1.so.left.stacked.brought c.in-Some.name c.index.result.now here (sym c.incoming.ensures ∙ c.in-Some.is) in
    let off = off_still s.0 tree store device self s.1.linked s.1.so c.clear.new.self ran.out ran.off c.in-Some.name was.0 in
    let kept = none_kept (lists c.end_calls.new.store) (lists c.end_brigade.new.store) c.in-Some.name e.out in
    record {
      labels = λ chain v stands. (c.add_labels.ensures.told ∙ (ap (λ (hs : List LabelsRun). labels_handed hs ++ labels_in c.in_ok-ran.ran.items) c.reserve.ensures.items
          ∙ ap (λ (xs : List (ℕ × Payload)). labels_handed self.labels.items ++ labels_in xs) ran.ran))
          ∙ closed_labels (map_of tree) (lists store) (next_name store) self v stands.left.seen;
      pools = ran.ok;
      gone = all_gone s.0 tree store device self s.1.linked s.1.so c.clear.new.self ran.out ran.off (lists c.end_brigade.new.store)
          (λ n none. kept n (l.none n none)) (λ k f is. kept f.call.name (l.gone k f is))
          (λ n brought.
          let same : brought.0 ≡ c.index.result.now = some_is brought.0 c.index.result.now (sym brought.1.0 ∙ here) in
          let name : n ≡ c.in-Some.name = some_is n c.in-Some.name (sym brought.1.1 ∙ (ap (λ (f : Filter). named_at f 8) same ∙ (sym c.incoming.ensures ∙ c.in-Some.is))) in
          e.out n ∙ (ap (ring.upd (lists c.end_calls.new.store) c.in-Some.name None) name ∙ ring_here (lists c.end_calls.new.store) c.in-Some.name None));
      next = e.next ∙ (l.next ∙ next);
      closed = ran.closed;
      unreferred = λ file none. unreferred_stays (map_of tree) (tree_formed tree) self.conn (conn_live s.0 tree store device self s.1.linked s.1.so) file none
          (is_referred (map_of c.clear.new.tree) file) (new.numbered file) (device.numbered file) (ran.closed file);
      others = d.others;
      leaves = leaving s.0 tree store device self s.1.linked s.1.so c.clear.new.self ran.out ran.off c.end_brigade.new.store _ (λ k. refl)
          (λ n unheld. e.out n ∙ (ring_off (lists c.end_calls.new.store) c.in-Some.name n None
          (λ same. unheld (record {
            at = self.first;
            filter = c.index.result.now;
            is = here;
            by = inr (8, sym c.incoming.ensures ∙ (c.in-Some.is ∙ ap (λ (m : ℕ). Some m) (sym same)));
          }))
          ∙ l.others n (λ h. unheld (record { at = h.at; filter = h.filter; is = h.is; by = h.by }))))
          (e.pools ∙ l.pools) (e.next ∙ (l.next ∙ next)) (λ id there young. d.names id (l.names id (e.names id there (rw (l.next, next) young)) (rw next young)) young);
      none = kept 0 (l.none 0 (none_cleared s.0 tree store device self s.1.linked s.1.so c.clear.new.self ran.out ran.off));
      house = house_ended c.end_calls.new.store c.end_brigade.new.store (map_of c.clear.new.tree) c.in-Some.name (ap (λ (f : ℕ → Option ℕ). f c.in-Some.name) l.pools ∙ off)
          e.out e.pools e.references (l.house (map_of c.clear.new.tree) d.house);
      references = subst (λ (f : ℕ → ℕ). AreOpen f new) (sym (e.references ∙ l.references)) d.open;
      rest = refl;
      err = tt;
      unread = tt;
    }

pub returns-in_default : goal.returns-in_default
unfolding filter_at
returns-in_default g c =
    let s = c.requires.stands in
    let self = c.args.self.now in
    let tree = c.args.tree.now in
    let store = c.args.store.now in
    let device = g.F.Files.device c.args.files.now in
    let new = g.F.Files.device c.clear.new.files in
    let ran = c.in_ok-ran.ensures in
    let l = c.end_calls.ensures in
    let d = c.clear.ensures in
    let next = d.next in
    let within : self.first < length self.filters.items = first_within s.0 self (length s.0 + 1) s.1.so.left.stacked.called s.1.so.left.stacked.within s.1.so.left.stacked.many in
    let here = slice_get_read self.filters.items (length self.filters.items) self.first c.index.result.now refl within c.index.ensures in
    record {
      labels = λ chain v stands. (c.add_labels.ensures.told ∙ (ap (λ (hs : List LabelsRun). labels_handed hs ++ labels_in c.in_ok-ran.ran.items) c.reserve.ensures.items
          ∙ ap (λ (xs : List (ℕ × Payload)). labels_handed self.labels.items ++ labels_in xs) ran.ran))
          ∙ closed_labels (map_of tree) (lists store) (next_name store) self v stands.left.seen;
      pools = ran.ok;
      gone = all_gone s.0 tree store device self s.1.linked s.1.so c.clear.new.self ran.out ran.off (lists c.end_calls.new.store) l.none l.gone
          (λ n brought. absurd (
          let same : brought.0 ≡ c.index.result.now = some_is brought.0 c.index.result.now (sym brought.1.0 ∙ here) in
          c.in_default.not-Some n (c.incoming.ensures ∙ (ap (λ (f : Filter). named_at f 8) (sym same) ∙ brought.1.1))));
      next = l.next ∙ next;
      closed = ran.closed;
      unreferred = λ file none. unreferred_stays (map_of tree) (tree_formed tree) self.conn (conn_live s.0 tree store device self s.1.linked s.1.so) file none
          (is_referred (map_of c.clear.new.tree) file) (new.numbered file) (device.numbered file) (ran.closed file);
      others = d.others;
      leaves = leaving s.0 tree store device self s.1.linked s.1.so c.clear.new.self ran.out ran.off c.end_calls.new.store _ (λ k. refl)
          (λ n unheld. l.others n (λ h. unheld (record { at = h.at; filter = h.filter; is = h.is; by = h.by }))) l.pools (l.next ∙ next)
          (λ id there young. d.names id (l.names id there (rw next young)) young);
      none = l.none 0 (none_cleared s.0 tree store device self s.1.linked s.1.so c.clear.new.self ran.out ran.off);
      house = l.house (map_of c.clear.new.tree) d.house;
      references = subst (λ (f : ℕ → ℕ). AreOpen f new) (sym l.references) d.open;
      rest = refl;
      err = tt;
      unread = tt;
    }
