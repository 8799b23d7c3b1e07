use Rattle.std.proofs.Common.{◌≡◌, ◌≤◌, true, Option, Some, ◌∷◌, is_some, sym, ap, subst, ◌∙◌, arith, inl, inr}
use Rattle.std.proofs.lemmas.Bool.{cases_Bool}
use Rattle.bucket_ring.specs.declared.names.BucketId.{BucketId}
use Rattle.bucket_ring.specs.Lists.{list_at, times, same, found}
use Rattle.bucket_ring.specs.Laws.{same_name, first_found, found_times}
use Rattle.bucket_store.specs.Dependents.{noted}
use Rattle.bucket_store.specs.Items.{StoredItems, from_place}
use Rattle.bucket_store.specs.Noted.{is_noted}
use Rattle.bucket_store.proofs.Noted.{item_kept}
use Rattle.bucket_store.proofs.Lists.{rest_head}
use Rattle.bucket_store.proofs.Names.{later_times}
use Rattle.bucket_store.proofs.Saves.{found_some}
use Rattle.bucket_store.proofs.Walks.{start_whole, told_some}
use Rattle.bucket_store.proofs.noting.note_ring.Goals as goal

pub loop-place-init : goal.loop-place-init
loop-place-init g c =
    let s = c.args.rings.now in
    let b = c.args.ring in
    let xs : StoredItems = list_at (g.R.Rings.lists s) b in
    record {
      done = λ id x is none le. absurd (
          let some = found_times id xs (ap is_some is) in
          let whole = ap (times id) (start_whole xs c.first-place.result c.first-place.ensures) in
          omega (arith, some, whole, none));
      kept = λ p j is. is;
      inside = λ id e. g.met.R.Rings.in_found s id b (first_found id xs (sym c.first-place.ensures ∙ e));
    }

pub loop-place-preserved : goal.loop-place-preserved
loop-place-preserved g c =
    let s = c.args.rings.now in
    let b = c.args.ring in
    let name = c.in-Some.id in
    let xs : StoredItems = list_at (g.R.Rings.lists s) b in
    let inside = c.loop-place.invariant.inside name c.in-Some.is in
    let first = found_some name xs (g.met.R.Rings.found_in s name b inside) in
    let head = rest_head name xs first.0 first.1 ∙ ap (λ (ys : StoredItems). (name, first.0) ∷ ys) (sym c.after-place.ensures.rest) in
    record {
      done = λ id x is none le. elim (cases_Bool (same id name)) [
        | inl hit ↦ subst (λ (j : BucketId). found j xs ≡ Some x → c.args.from ≤ j.birth → is_noted (noted c.note_bucket.new.dependents) (j, x) ≡ true) (sym (same_name id name hit))
            (c.note_bucket.ensures.here x) is le
        | inr miss ↦ item_kept (noted c.loop-place.dependents) (noted c.note_bucket.new.dependents) c.note_bucket.ensures.kept (id, x)
            (c.loop-place.invariant.done id x is (ap (λ (place : Option BucketId). times id (from_place place xs)) c.in-Some.is
            ∙ later_times id name first.0 (from_place (Some name) xs) (from_place c.after-place.result xs) miss head none) le)
      ];
      kept = λ p j is. c.note_bucket.ensures.kept p j (c.loop-place.invariant.kept p j is);
      inside = told_some (λ j. g.R.Rings.ring_at s j ≡ Some b) c.after-place.result c.after-place.ensures.inside;
    }
