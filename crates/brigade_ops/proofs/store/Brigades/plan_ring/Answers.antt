use Rattle.std.proofs.Common.{◌≡◌, true, false, Option, Some, List, ◌++◌, [], refl, sym, ap, ◌∙◌, arith, inl, inr}
use Rattle.std.specs.List.{cons_option}
use Rattle.std.proofs.lemmas.Bool.{cases_Bool}
use Rattle.run_model.specs.declared.bucket.Bucket.{Bucket}
use Rattle.bucket_ring.specs.declared.names.BucketId.{BucketId}
use Rattle.bucket_ring.specs.Lists.{list_at, times, same}
use Rattle.bucket_ring.specs.Kept.{once_in}
use Rattle.bucket_ring.specs.Laws.{once_here, same_name}
use Rattle.bucket_store.specs.declared.morph.Morph.{Morph}
use Rattle.bucket_store.specs.Items.{Items, from_place}
use Rattle.brigade_ops.specs.Due.{is_reached}
use Rattle.bucket_store.specs.Morphs.{morphed, cleared_as}
use Rattle.brigade_ops.specs.Store.{lists, brigade_of, bucket_at}
use Rattle.brigade_ops.proofs.Plans.{other_kept, this_ready}
use Rattle.bucket_store.proofs.Names.{later_times}
use Rattle.bucket_store.proofs.Saves.{found_some}
use Rattle.brigade_ops.proofs.Stores.{counted, found_in, found_bucket}
use Rattle.bucket_store.proofs.Walks.{if_some, told_some, fewer_behind}
use Rattle.brigade_ops.proofs.store.Brigades.plan_ring.Goals as goal

pub loop-place-init : goal.loop-place-init
loop-place-init g c =
    let store = c.args.self.now in
    let b = c.args.b in
    let xs : Items = list_at (lists store) b in
    record {
      ready = λ id x at there none.
          (let here = once_here b in
          let never : once_in b (Some b) ≡ 0 = ap (once_in b) (sym at) ∙ (sym (counted store id b) ∙ (ap (λ (ys : Items). times id ys) (sym c.start-place.ensures.whole) ∙ none)) in
          absurd (omega (arith, never, here)));
      begun = c.requires.begun;
      others = λ id q x at ne. refl;
      inside = told_some (λ j. brigade_of store j ≡ Some b) c.start-place.result c.start-place.ensures.inside;
    }

pub loop-place-smaller : goal.loop-place-smaller
loop-place-smaller g c =
    let store = c.args.self.now in
    let b = c.args.b in
    let id = c.in-Some.id in
    let xs : Items = list_at (lists store) b in
    let inside : brigade_of store id ≡ Some b = c.loop-place.invariant.inside id c.in-Some.is in
    let x = found_some id xs (found_in store id b inside) in
    fewer_behind id c.loop-place.place c.behind-place.result xs x.0 x.1 c.in-Some.is (c.behind-place.ensures.others b inside)

pub loop-place-preserved : goal.loop-place-preserved
loop-place-preserved g c =
    let store = c.args.self.now in
    let b = c.args.b in
    let name = c.in-Some.id in
    let reached = is_reached c.args.reached.now in
    let ready = c.loop-place.found in
    let r = c.morph_for-morph.result in
    let xs : Items = list_at (lists store) b in
    let inside : brigade_of store name ≡ Some b = c.loop-place.invariant.inside name c.in-Some.is in
    let grown : ((id : BucketId) (x : Bucket) → morphed c.push_some.new.items id x ≡ morphed (ready ++ cons_option r []) id x) =
    λ id x. ap (λ (ms : List Morph). morphed ms id x) c.in_ok-push_some.ensures.ok in
    let at_name : ((id : BucketId) (x : Bucket) → same id name ≡ true → bucket_at store id ≡ Some x → bucket_at store name ≡ Some x) =
    λ id x hit there. (sym (ap (λ (j : BucketId). bucket_at store j) (same_name id name hit)) ∙ there) in
    let this : ((id : BucketId) (x : Bucket) → same id name ≡ true → bucket_at store id ≡ Some x → morphed c.push_some.new.items id x ≡ cleared_as reached x) = λ id x hit there.
    (let here = at_name id x hit there in
    grown id x
    ∙ this_ready reached ready name r c.morph_for-morph.ensures.name id x hit (c.loop-place.invariant.begun id x there)
    (if_some (λ (m : Morph). m.kind ≡ (cleared_as reached x).kind) r
    (λ m e. told_some (λ (m : Morph). (y : Bucket) → bucket_at store name ≡ Some y → m.kind ≡ (cleared_as reached y).kind) r c.morph_for-morph.ensures.kind m e x here))
    (if_some (λ (m : Morph). m.home ≡ (cleared_as reached x).home) r
    (λ m e. told_some (λ (m : Morph). (y : Bucket) → bucket_at store name ≡ Some y → m.home ≡ (cleared_as reached y).home) r c.morph_for-morph.ensures.home m e x here))
    (λ none. c.morph_for-morph.ensures.same x none here)) in
    let other : ((id : BucketId) (x : Bucket) → same id name ≡ false → morphed c.push_some.new.items id x ≡ morphed ready id x) =
    λ id x miss. (grown id x ∙ other_kept reached ready name r c.morph_for-morph.ensures.name id x miss) in
    let first = found_some name xs (found_in store name b inside) in
    let head = c.behind-place.ensures.head b first.0 inside (found_bucket store name b first.0 inside first.1) in
    record {
      ready = λ id x at there none. elim (cases_Bool (same id name)) [
        | inl hit ↦ this id x hit there
        | inr miss ↦ other id x miss
            ∙ c.loop-place.invariant.ready id x at there (ap (λ (place : Option BucketId). times id (from_place place xs)) c.in-Some.is
            ∙ later_times id name first.0 (from_place (Some name) xs) (from_place c.behind-place.result xs) miss head none)
      ];
      begun = λ id x there. elim (cases_Bool (same id name)) [
        | inl hit ↦ inr (this id x hit there)
        | inr miss ↦ elim (c.loop-place.invariant.begun id x there) [ inl e ↦ inl (other id x miss ∙ e) | inr e ↦ inr (other id x miss ∙ e) ]
      ];
      others = λ id q x at ne. elim (cases_Bool (same id name)) [
        | inl hit ↦ absurd (let both : Some q ≡ Some b = sym at ∙ (ap (λ (j : BucketId). brigade_of store j) (same_name id name hit) ∙ inside) in let e : q ≡ b = cc in ne e)
        | inr miss ↦ other id x miss ∙ c.loop-place.invariant.others id q x at ne
      ];
      inside = told_some (λ j. brigade_of store j ≡ Some b) c.behind-place.result (c.behind-place.ensures.inside b inside);
    }
