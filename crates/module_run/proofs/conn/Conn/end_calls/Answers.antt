use Rattle.std.proofs.Common.{◌≡◌, ◌≢◌, ℕ, List, length, Option, Some, None, refl, sym, ap, ◌∙◌, inl, inr, arith}
use Rattle.std.specs.Prelude.{slice_index_or}
use Rattle.std.proofs.lemmas.Bool.{cases_eq}
use Rattle.std.proofs.lemmas.Option.{slice_get_read, slice_get_within}
use Rattle.brigade_ops.specs.Store.{lists}
use Rattle.bucket_ring.specs.Lists as ring
use Rattle.interp_state.proofs.Changes.{ring_here, ring_off}
use Rattle.module_run.specs.declared.conn.Filter.{Filter}
use Rattle.module_run.specs.Conns.{filter_at}
use Rattle.module_run.proofs.Leaving.{house_ended, none_kept}
use Rattle.module_run.proofs.Looked.{some_same}
use Rattle.module_run.proofs.conn.Conn.end_calls.Goals as goal

pub end_brigade-requires : goal.end_brigade-requires
unfolding filter_at
end_brigade-requires g c = (let item = c.filter-item.result in record {
  free = ap (λ (f : ℕ → Option ℕ). f item.call.name) c.loop-filter.invariant.pools ∙ c.requires.free c.loop-filter.filter-index item
      (slice_get_read c.args.self.now.filters.items (length c.args.self.now.filters.items) c.loop-filter.filter-index item refl (let t = c.loop-filter-test.true in omega arith)
      (c.filter-item.is ∙ ap (λ (fs : List Filter). slice_index_or fs c.loop-filter.filter-index item) c.deref-filter-items.ensures.value));
})

pub loop-filter-preserved : goal.loop-filter-preserved
unfolding filter_at
loop-filter-preserved g c =
    let inv = c.loop-filter.invariant in
    let item = c.filter-item.result in
    let index = c.loop-filter.filter-index in
    let e = c.end_brigade.ensures in
    let next = inv.next in
    let at : filter_at c.args.self.now index ≡ Some item =
    slice_get_read c.args.self.now.filters.items (length c.args.self.now.filters.items) index item refl (let t = c.loop-filter-test.true in omega arith)
    (c.filter-item.is ∙ ap (λ (fs : List Filter). slice_index_or fs index item) c.deref-filter-items.ensures.value) in
    record {
      others = λ n unheld. e.out n
          ∙ (ring_off (lists c.loop-filter.store) item.call.name n None (λ same. unheld (record { at = index; filter = item; is = at; by = inl (sym same) })) ∙ inv.others n unheld);
      gone = λ k f lt is. elim (cases_eq f.call.name item.call.name) [
        | inl same ↦ e.out f.call.name ∙ (ap (ring.upd (lists c.loop-filter.store) item.call.name None) same ∙ ring_here (lists c.loop-filter.store) item.call.name None)
        | inr ne ↦
            (let other : k ≢ index = λ here. ne (ap (λ (x : Filter). x.call.name) (some_same f item (sym is ∙ (ap (filter_at c.args.self.now) here ∙ at)))) in
            e.out f.call.name ∙ (ring_off (lists c.loop-filter.store) item.call.name f.call.name None ne ∙ inv.gone k f (omega (arith, other, lt)) is))
      ];
      next = e.next ∙ next;
      names = λ id there young. inv.names id (e.names id there (omega (arith, young, next))) young;
      pools = e.pools ∙ inv.pools;
      none = λ n gone. none_kept (lists c.loop-filter.store) (lists c.end_brigade.new.store) item.call.name e.out n (inv.none n gone);
      references = e.references ∙ inv.references;
      house = λ ps h. house_ended c.loop-filter.store c.end_brigade.new.store ps item.call.name
          (ap (λ (f : ℕ → Option ℕ). f item.call.name) inv.pools ∙ c.requires.free index item at) e.out e.pools e.references (inv.house ps h);
    }

pub returns-clause-gone : goal.returns-clause-gone
unfolding filter_at
returns-clause-gone g c k f is = c.loop-filter.invariant.gone k f (let w = slice_get_within c.args.self.now.filters.items k f is in let t = c.loop-filter-test.false in omega arith) is
