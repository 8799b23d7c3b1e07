use Rattle.std.proofs.Common.{◌≡◌, true, List, [], length, refl, arith, sym, ap, subst, ◌∙◌, inl, inr}
use Rattle.std.specs.Prelude.{slice_index_or}
use Rattle.std.proofs.lemmas.Bool.{cases_eq}
use Rattle.std.proofs.lemmas.Option.{slice_get_within, slice_get_read}
use Rattle.run_model.specs.Pools.{is_in}
use Rattle.module_run.specs.declared.conn.Filter.{Filter}
use Rattle.module_run.specs.Conns.{filter_at}
use Rattle.module_run.specs.Stacked.{named_at}
use Rattle.interp_state.proofs.Pushed.{item_is}
use Rattle.module_run.proofs.conn.Conn.rings.Goals as goal

pub loop-filter-init : goal.loop-filter-init
loop-filter-init c = record {
  only = λ n e. absurd (let h : is_in n [] ≡ true = ap (is_in n) (sym c.new-rings.ensures.items) ∙ e in cc);
  named = λ k b n f lt is e. absurd (omega (arith, lt));
  loose = λ k f lt is. absurd (omega (arith, lt));
}

pub loop-filter-preserved : goal.loop-filter-preserved
unfolding filter_at
loop-filter-preserved c = record {
  only = λ n e. elim (c.in_ok-add_rings.ensures.only n e) [
    | inl old ↦ c.loop-filter.invariant.only n old
    | inr new ↦ record {
      at = c.loop-filter.filter-index;
      filter = c.filter-item.result;
      is = slice_get_read c.args.self.now.filters.items (length c.args.self.now.filters.items) c.loop-filter.filter-index c.filter-item.result refl (let t = c.loop-filter-test.true in omega arith)
          (c.filter-item.is ∙ ap (λ (fs : List Filter). slice_index_or fs c.loop-filter.filter-index c.filter-item.result) c.deref-filter-items.ensures.value);
      by = new;
    }
  ];
  named = λ k b n f lt is e. elim (cases_eq k c.loop-filter.filter-index) [
    | inl here ↦ c.in_ok-add_rings.ensures.named b n (ap (λ (x : Filter). named_at x b) (item_is c.args.self.now.filters.items c.loop-filter.filter-index f c.filter-item.result (c.filter-item.is
        ∙ ap (λ (fs : List Filter). slice_index_or fs c.loop-filter.filter-index c.filter-item.result) c.deref-filter-items.ensures.value) (ap (filter_at c.args.self.now) (sym here) ∙ is)) ∙ e)
    | inr ne ↦ c.add_rings.ensures.kept n (c.loop-filter.invariant.named k b n f (omega (arith, ne, lt)) is e)
  ];
  loose = λ k f lt is. elim (cases_eq k c.loop-filter.filter-index) [
    | inl here ↦ subst (λ (x : Filter). is_in x.call.name c.add_rings.new.rings.items ≡ true) (item_is c.args.self.now.filters.items c.loop-filter.filter-index f c.filter-item.result
        (c.filter-item.is ∙ ap (λ (fs : List Filter). slice_index_or fs c.loop-filter.filter-index c.filter-item.result) c.deref-filter-items.ensures.value)
        (ap (filter_at c.args.self.now) (sym here) ∙ is)) c.in_ok-add_rings.ensures.loose
    | inr ne ↦ c.add_rings.ensures.kept f.call.name (c.loop-filter.invariant.loose k f (omega (arith, ne, lt)) is)
  ];
}

pub returns-clause-named : goal.returns-clause-named
unfolding filter_at
returns-clause-named c k b n f is e = c.loop-filter.invariant.named k b n f (let w = slice_get_within c.args.self.now.filters.items k f is in let x = c.loop-filter-test.false in omega arith) is e

pub returns-clause-loose : goal.returns-clause-loose
unfolding filter_at
returns-clause-loose c k f is = c.loop-filter.invariant.loose k f (let w = slice_get_within c.args.self.now.filters.items k f is in let x = c.loop-filter-test.false in omega arith) is
