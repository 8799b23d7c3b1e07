use Rattle.std.proofs.Common.{◌≡◌, Option, Some, ◌∷◌, sym, ap, ◌∙◌, arith, inl, inr}
use Rattle.std.proofs.lemmas.Bool.{cases_Bool}
use Rattle.bucket_ring.specs.declared.names.BucketId.{BucketId}
use Rattle.bucket_ring.specs.Kept.{once_in}
use Rattle.bucket_ring.specs.Lists.{list_at, times, same}
use Rattle.bucket_ring.specs.Laws.{first_found, once_here, same_name}
use Rattle.bucket_store.specs.Items.{StoredItems, from_place}
use Rattle.bucket_store.specs.Noted.{bucket_named, still_under}
use Rattle.bucket_store.proofs.Lists.{rest_head}
use Rattle.bucket_store.proofs.Names.{later_times}
use Rattle.bucket_store.proofs.Saves.{found_some}
use Rattle.bucket_store.proofs.Walks.{start_whole, told_some}
use Rattle.bucket_store.proofs.noting.ring_has_none.Goals as goal

pub loop-place-init : goal.loop-place-init
loop-place-init g c =
    let s = c.args.rings.now in
    let b = c.args.ring in
    let xs : StoredItems = list_at (g.R.Rings.lists s) b in
    record {
      none = λ id at none.
          (let here = once_here b in
          let never : once_in b (Some b) ≡ 0 = ap (once_in b) (sym at) ∙ (sym ((g.met.R.Rings.counted s) id b) ∙ (sym (ap (times id) (start_whole xs c.first-place.result c.first-place.ensures)) ∙ none)) in
          absurd (omega (arith, never, here)));
      inside = λ id e. g.met.R.Rings.in_found s id b (first_found id xs (sym c.first-place.ensures ∙ e));
    }

pub loop-place-preserved : goal.loop-place-preserved
loop-place-preserved g c =
    let s = c.args.rings.now in
    let b = c.args.ring in
    let name = c.in-Some.id in
    let xs : StoredItems = list_at (g.R.Rings.lists s) b in
    let inside = c.loop-place.invariant.inside name c.in-Some.is in
    let first = found_some name xs (g.met.R.Rings.found_in s name b inside) in
    let head = rest_head name xs first.0 first.1 ∙ ap (λ (ys : StoredItems). (name, first.0) ∷ ys) (sym c.after-place.ensures.rest) in
    record {
      none = λ id at none. elim (cases_Bool (same id name)) [
        | inl hit ↦ ap (λ (j : BucketId). still_under c.args.pool (bucket_named (g.R.Rings.ring_at s) (g.R.Rings.lists s) j)) (same_name id name hit) ∙ (sym c.depends_there.ensures ∙ c.if-depends_there.false)
        | inr miss ↦ c.loop-place.invariant.none id at (ap (λ (place : Option BucketId). times id (from_place place xs)) c.in-Some.is
            ∙ later_times id name first.0 (from_place (Some name) xs) (from_place c.after-place.result xs) miss head none)
      ];
      inside = told_some (λ j. g.R.Rings.ring_at s j ≡ Some b) c.after-place.result c.after-place.ensures.inside;
    }
