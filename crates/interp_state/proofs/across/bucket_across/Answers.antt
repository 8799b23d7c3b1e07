-- The bucket that the point lies inside, as it reads.
use Rattle.std.proofs.Common.{refl, sym, ◌∙◌, inl, inr}
use Rattle.bucket_ring.specs.Lists.{list_at}
use Rattle.bucket_store.specs.declared.parting.Point.TheVariants as point
use Rattle.bucket_store.proofs.Walks.{once_listed}
use Rattle.brigade_ops.specs.Store.{lists, brigade_of}
use Rattle.brigade_ops.specs.Store as store
use Rattle.brigade_ops.proofs.Stores.{counted, found_bucket}
use Rattle.interp_state.proofs.Crossed.{none_crossed, one_crossed}
use Rattle.interp_state.proofs.Running.{shown_is}
use Rattle.interp_state.proofs.across.bucket_across.Goals as goal

pub returns-in-Inside-clause-at : goal.returns-in-Inside-clause-at
returns-in-Inside-clause-at g c runs =
    let s = c.args.store.now in
    let b = c.args.b in
    let id = c.in-Inside.id in
    let x = one_crossed runs c.args.point c.in-Inside.field-1 id (list_at (lists s) b) (λ i. once_listed b (brigade_of s i) _ (counted s i b)) (sym c.in-Inside.is ∙ c.find.ensures.value) in
    shown_is runs (store.bucket_at s) id x.0 (found_bucket s id b x.0 (c.find.ensures.inside id c.in-Inside.field-1 c.in-Inside.is) x.1.0) ∙ x.1.1

pub returns-in-At : goal.returns-in-At
returns-in-At g c = record {
  at = λ runs.
      let none = none_crossed runs c.args.point (list_at (lists c.args.store.now) c.args.b) in
      elim c.in-At.is [
        | inl at ↦ none (point.At at.0) (sym at.1 ∙ c.find.ensures.value) refl
        | inr is ↦ none point.Short (sym is ∙ c.find.ensures.value) refl
      ];
  there = tt;
}
