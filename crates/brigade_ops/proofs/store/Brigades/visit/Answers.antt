-- The visitor stops at the bucket at which the walk stands, or sees those behind it.
use Rattle.std.proofs.Common.{◌≡◌, Some, refl, sym, ap, ◌∙◌, subst, inl, inr}
use Rattle.bucket_ring.specs.Lists.{list_at}
use Rattle.bucket_store.specs.Items.{Items, from_place}
use Rattle.bucket_store.specs.Views.{bucket_of}
use Rattle.bucket_store.proofs.Lists.{rest_head}
use Rattle.bucket_store.proofs.Walks.{told_some}
use Rattle.brigade_ops.specs.Store.{lists, brigade_of}
use Rattle.brigade_ops.specs.Visits.{AreVisited}
use Rattle.brigade_ops.proofs.Stores.{bucket_found}
use Rattle.brigade_ops.proofs.store.Brigades.visit.Goals as goal

pub returns-then-stops_at-clause-all : goal.returns-then-stops_at-clause-all
returns-then-stops_at-clause-all g c =
    let xs : Items = list_at (lists c.args.self.now) c.args.b in
    let id = c.in-Some.id in
    let x = bucket_of c.payload.result in
    let head = ap (λ p. from_place p xs) c.in-Some.is
    ∙ rest_head id xs x (bucket_found c.args.self.now id c.args.b x (c.loop-place.invariant.inside id c.in-Some.is) c.payload.ensures) in
    c.loop-place.invariant.left (Some id) c.stops_at.new.self
    (subst (λ (ys : Items). AreVisited g.V.Visitor.visits c.loop-place.visitor ys (Some id) c.stops_at.new.self) (sym head)
    (inl (record { here = refl; seen = rw c.if-stops_at.true at c.stops_at.ensures })))

pub loop-place-preserved : goal.loop-place-preserved
loop-place-preserved g c =
    let xs : Items = list_at (lists c.args.self.now) c.args.b in
    let id = c.in-Some.id in
    let inside = c.loop-place.invariant.inside id c.in-Some.is in
    let head = ap (λ p. from_place p xs) c.in-Some.is ∙ c.behind-place.ensures.head c.args.b (bucket_of c.payload.result) inside c.payload.ensures in
    record {
      left = λ stop t walked.
          c.loop-place.invariant.left stop t
          (subst (λ (ys : Items). AreVisited g.V.Visitor.visits c.loop-place.visitor ys stop t) (sym head) (inr (c.stops_at.new.self, rw c.if-stops_at.false at c.stops_at.ensures, walked)));
      inside = told_some (λ j. brigade_of c.args.self.now j ≡ Some c.args.b) c.behind-place.result (c.behind-place.ensures.inside c.args.b inside);
    }
