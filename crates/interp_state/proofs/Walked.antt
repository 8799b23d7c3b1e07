-- Tests of a brigade, bucket by bucket.
use Rattle.std.proofs.Common.{◌≡◌, ◌<◌, ℕ, Bool, true, false, ◌||◌, List, [], ◌∷◌, drop, length, Option, Some, is_some, sym, ap, ◌∙◌, subst, arith, inl, inr}
use Rattle.std.specs.Prelude.{IfSome}
use Rattle.std.specs.List.{list_any}
use Rattle.bucket_ring.specs.declared.names.BucketId.{BucketId}
use Rattle.bucket_ring.specs.declared.rings.Rings.{Ghosts}
use Rattle.bucket_ring.specs.Lists.{list_at, rest}
use Rattle.run_model.specs.declared.bucket.Bucket.{Bucket}
use Rattle.run_model.specs.declared.bucket.NamedBucket.{NamedBucket}
use Rattle.bucket_kinds.specs.declared.stored.Stored.{Stored}
use Rattle.brigade_ops.specs.declared.store.Brigades.{Brigades}
use Rattle.bucket_store.specs.Items.{Items, named_item, from_place}
use Rattle.brigade_ops.specs.Store.{lists, brigade_of, bucket_at}
use Rattle.brigade_ops.specs.Visits.{AreVisited, BucketVisits}
use Rattle.bucket_store.proofs.Lists.{rest_head}
use Rattle.bucket_store.proofs.Walks.{told_some}
use Rattle.brigade_ops.proofs.Stores.{bucket_found}
use Rattle.interp_state.specs.Seen.{item_in, shown}

-- A walk along the brigade b stands at this bucket of it.
pub record WalkAt {R : Type 0} {g : Ghosts R Stored} (store : Brigades R g) (b : ℕ) (place : Option BucketId) (id : BucketId) (x : Bucket) : Type 0 where
  pub at : place ≡ Some id
  pub inside : brigade_of store id ≡ Some b
  pub here : bucket_at store id ≡ Some x

module _ {R : Type 0} {g : Ghosts R Stored} {store : Brigades R g} {b : ℕ} {place : Option BucketId} {id : BucketId} {x : Bucket} (walk : WalkAt store b place id x) where
  pub head_here : from_place place (list_at (lists store) b) ≡ (id, x) ∷ drop 1 (rest id (list_at (lists store) b))
  head_here = ap (λ (p : Option BucketId). from_place p (list_at (lists store) b)) walk.at ∙ rest_head id (list_at (lists store) b) x (bucket_found store id b x walk.inside walk.here)

  pub shown_here : {X : Type 0} (ask : List NamedBucket → X) (runs : ℕ → Bool)
      → ask (shown runs (from_place place (list_at (lists store) b))) ≡ ask (named_item (item_in runs (id, x)) ∷ shown runs (drop 1 (rest id (list_at (lists store) b))))
  shown_here ask runs = ap (λ (zs : Items). ask (shown runs zs)) head_here

  pub any_stop : (test : NamedBucket → Bool) (runs : ℕ → Bool) → test (named_item (item_in runs (id, x))) ≡ true → true ≡ list_any test (shown runs (from_place place (list_at (lists store) b)))
  any_stop test runs hit = sym (shown_here (list_any test) runs ∙ ap (λ (t : Bool). t || list_any test (shown runs (drop 1 (rest id (list_at (lists store) b))))) hit)

  -- and goes on behind it
  module _ (behind : Option BucketId) (on : from_place behind (list_at (lists store) b) ≡ drop 1 (rest id (list_at (lists store) b))) where
    pub shorter : length (from_place behind (list_at (lists store) b)) < length (from_place place (list_at (lists store) b))
    shorter = (let more = ap length head_here in let less = ap length on in omega (arith, more, less))

    pub shown_on : {X : Type 0} (ask : List NamedBucket → X) (runs : ℕ → Bool)
        → ask (named_item (item_in runs (id, x)) ∷ shown runs (from_place behind (list_at (lists store) b))) ≡ ask (shown runs (from_place place (list_at (lists store) b)))
    shown_on ask runs = ap (λ (zs : Items). ask (named_item (item_in runs (id, x)) ∷ shown runs zs)) on ∙ sym (shown_here ask runs)

    pub any_on : (test : NamedBucket → Bool) (runs : ℕ → Bool) → test (named_item (item_in runs (id, x))) ≡ false
        → list_any test (shown runs (from_place behind (list_at (lists store) b))) ≡ list_any test (shown runs (from_place place (list_at (lists store) b)))
    any_on test runs miss = sym (ap (λ (t : Bool). t || list_any test (shown runs (from_place behind (list_at (lists store) b)))) miss) ∙ shown_on (list_any test) runs

    -- in the same brigade
    pub inside_on : IfSome behind (λ j. brigade_of store j ≡ Some b) → (j : BucketId) → behind ≡ Some j → brigade_of store j ≡ Some b
    inside_on told j is = told_some (λ (k : BucketId). brigade_of store k ≡ Some b) behind told j is

-- A visitor that keeps its state and stops at each bucket of which a test holds has stopped where it holds of some bucket.
module _ {S : Type 0} (visits : BucketVisits S) (runs : ℕ → Bool) (test : NamedBucket → Bool) (s : S)
    (asks : (id : BucketId) (x : Bucket) (stop : Bool) (t : S) → visits s id x stop t → (t ≡ s) × (stop ≡ test (named_item (item_in runs (id, x))))) where
  pub any_visited : (xs : Items) (stop : Option BucketId) (t : S) → AreVisited visits s xs stop t → is_some stop ≡ list_any test (shown runs xs)
  any_visited [] stop t end = ap is_some end.0
  any_visited (x ∷ xs) stop t (inl here) =
      ap is_some here.here ∙ ap (λ (u : Bool). u || list_any test (shown runs xs)) (asks x.0 x.1 true t here.seen).1
  any_visited (x ∷ xs) stop t (inr on) =
      let a = asks x.0 x.1 false on.0 on.1 in
      any_visited xs stop t (subst (λ (u : S). AreVisited visits u xs stop t) a.0 on.2) ∙ ap (λ (u : Bool). u || list_any test (shown runs xs)) a.1
