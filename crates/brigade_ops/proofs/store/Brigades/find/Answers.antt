-- Where the walk stopped, and what of the point was left then, is where the point lies.
use Rattle.std.proofs.Common.{◌≡◌, ◌≢◌, zero, suc, ℕ, Option, None, Some, refl, sym, ap, ◌∙◌}
use Rattle.bucket_ring.specs.declared.names.BucketId.{BucketId}
use Rattle.bucket_ring.specs.Lists.{list_at}
use Rattle.bucket_store.specs.declared.parting.Point.TheVariants as point
use Rattle.bucket_store.specs.Points.{point_in}
use Rattle.brigade_ops.specs.Store.{lists}
use Rattle.brigade_ops.proofs.Visited.{come_to, point_found}
use Rattle.brigade_ops.proofs.store.Brigades.find.Goals as goal
use Rattle.brigade_ops.proofs.store.Brigades.find.Goals.{After-visit-place}

found : (g : _) (c : After-visit-place g) → point_in c.args.point (list_at (lists c.args.self.now) c.args.b) ≡ come_to c.visit-place.result c.visit-place.new.visitor.left
found g c = point_found _ (λ s. s.left) (λ s id x stop t went. went) _ (list_at (lists c.args.self.now) c.args.b) c.visit-place.result c.visit-place.new.visitor c.visit-place.ensures.all

ended : (stop : Option BucketId) (n : ℕ) → n ≡ 0 → point.At stop ≡ come_to stop n
ended stop n is = ap (come_to stop) (sym is)

inside : (stop : Option BucketId) (id : BucketId) (n : ℕ) → n ≢ 0 → stop ≡ Some id → point.Inside id n ≡ come_to stop n
inside stop id zero some is = absurd (some refl)
inside stop id (suc n) some is = ap (λ o. come_to o (suc n)) (sym is)

short : (stop : Option BucketId) (n : ℕ) → n ≢ 0 → stop ≡ None → point.Short ≡ come_to stop n
short stop zero some is = absurd (some refl)
short stop (suc n) some is = ap (λ o. come_to o (suc n)) (sym is)

pub returns-then-finder-eq0-clause-value : goal.returns-then-finder-eq0-clause-value
returns-then-finder-eq0-clause-value g c =
    ended c.visit-place.result c.visit-place.new.visitor.left c.if-finder-eq0.true ∙ sym (found g (goal.at.returns-then-finder-eq0-clause-value g c).After-visit-place)

pub returns-in-Some-clause-value : goal.returns-in-Some-clause-value
returns-in-Some-clause-value g c =
    inside c.visit-place.result c.in-Some.id c.visit-place.new.visitor.left c.if-finder-eq0.false c.in-Some.is ∙ sym (found g (goal.at.returns-in-Some-clause-value g c).After-visit-place)

pub returns-in-None-clause-value : goal.returns-in-None-clause-value
returns-in-None-clause-value g c =
    short c.visit-place.result c.visit-place.new.visitor.left c.if-finder-eq0.false c.in-None.is ∙ sym (found g (goal.at.returns-in-None-clause-value g c).After-visit-place)
