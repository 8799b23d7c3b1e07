-- Where a cursor stands there is that bucket, or that end.
use Rattle.std.proofs.Common.{◌≡◌, ℕ, zero, suc, ◌<◌, Bool, true, false, ◌==◌, cond, List, [], ◌∷◌, Option, Some, None, refl, sym, ◌∙◌, ap, arith, eqb-true}
use Rattle.run_model.specs.declared.bucket.NamedBucket.{NamedBucket}
use Rattle.run_model.specs.declared.bucket.Cursor.{Cursor}
use Rattle.run_model.specs.declared.bucket.Cursor.TheVariants as cursor
use Rattle.run_model.specs.declared.bucket.BrigadeVar.{BrigadeVar}
use Rattle.run_model.specs.declared.bucket.BrigadeVar.TheVariants as var
use Rattle.run_model.specs.BrigadeLists.{buckets_from, first_bucket, bucket_named, is_there}
use Rattle.run_model.specs.Sound.{brigade_name}
use Rattle.run_model.specs.State.{Configuration, is_named}
use Rattle.run_model.specs.Cursors.{CursorPlace, Nowhere, AtLoose, Within, AtEndOf, found_below, holder_of, variable_of, place_of_loose, place_in_brigade, place_of_bucket, place_of_end, place_of_cursor}
use Rattle.run_model.specs.BucketSteps.{items_at}

-- What is found below a number is below it, and passes the test.
pub found_tells : (n : ℕ) (p : ℕ → Bool) (k : ℕ) → found_below n p ≡ Some k → (k < n) × (p k ≡ true)
unfolding found_below
found_tells zero p k is = absurd (cc)
found_tells (suc n) p k is = by_test (p n) refl (found_tells n p k) is where
  by_test : (c : Bool) → p n ≡ c → (found_below n p ≡ Some k → (k < n) × (p k ≡ true)) → cond c (Some n) (found_below n p) ≡ Some k → (k < suc n) × (p k ≡ true)
  by_test true tells rest is = (let same : n ≡ k = cc in (omega arith, ap p (sym same) ∙ tells))
  by_test false tells rest is = (let below = rest is in (omega (arith, below.0), below.1))

-- A bucket that is found by its name has that name.
pub named_is : (n : ℕ) (bs : List NamedBucket) (x : NamedBucket) → bucket_named n bs ≡ Some x → x.name ≡ n
unfolding buckets_from
named_is n [] x is = absurd (cc)
named_is n (b ∷ bs) x is = by_name (b.name == n) refl (named_is n bs x) is where
  by_name : (c : Bool) → (b.name == n) ≡ c → (bucket_named n bs ≡ Some x → x.name ≡ n) → first_bucket (cond c (b ∷ bs) (buckets_from n bs)) ≡ Some x → x.name ≡ n
  by_name true tells rest is = (let same : b ≡ x = cc in ap (λ (y : NamedBucket). y.name) (sym same) ∙ eqb-true b.name n tells)
  by_name false tells rest is = rest is

-- What a place says of the state.
abbrev pub StandsThere : Configuration → CursorPlace → Type 0
StandsThere r Nowhere = Unit {0}
StandsThere r (AtLoose x) = bucket_named x.name r.call.loose ≡ Some x
StandsThere r (Within b x) = (b < 9) × (bucket_named x.name (items_at r b) ≡ Some x)
StandsThere r (AtEndOf b) = (b < 9) × ((n : ℕ) × (brigade_name (r.instance.brigades b) ≡ Some n))

again : (n : ℕ) (bs : List NamedBucket) (x : NamedBucket) → bucket_named n bs ≡ Some x → bucket_named x.name bs ≡ Some x
again n bs x is = ap (λ (k : ℕ). bucket_named k bs) (named_is n bs x is) ∙ is

pub named_in : (v : BrigadeVar) (n : ℕ) → is_named (brigade_name v) n ≡ true → brigade_name v ≡ Some n
named_in var.Null n is = absurd (cc)
named_in var.Gone n is = absurd (cc)
named_in (var.Live v) n is = ap (λ (k : ℕ). Some k) (sym (eqb-true n v.name is))

pub stands : (r : Configuration) (c : Cursor) → StandsThere r (place_of_cursor r c)
unfolding place_of_cursor holder_of variable_of
stands r cursor.Unset = tt
stands r (cursor.At n) = of_holder (holder_of r n) refl where
  of_loose : (o : Option NamedBucket) → bucket_named n r.call.loose ≡ o → StandsThere r (place_of_loose o)
  of_loose None is = tt
  of_loose (Some x) is = again n r.call.loose x is

  of_items : (b : ℕ) (o : Option NamedBucket) → b < 9 → bucket_named n (items_at r b) ≡ o → StandsThere r (place_in_brigade b o)
  of_items b None lt is = tt
  of_items b (Some x) lt is = (lt, again n (items_at r b) x is)

  of_holder : (o : Option ℕ) → holder_of r n ≡ o → StandsThere r (place_of_bucket r n o)
  of_holder None is = of_loose (bucket_named n r.call.loose) refl
  of_holder (Some b) is = of_items b (bucket_named n (items_at r b)) (found_tells 9 (λ k. is_there n (items_at r k)) b is).0 refl
stands r (cursor.End n) = of_variable (variable_of r n) refl where
  of_variable : (o : Option ℕ) → variable_of r n ≡ o → StandsThere r (place_of_end o)
  of_variable None is = tt
  of_variable (Some b) is = (let found = found_tells 9 (λ k. is_named (brigade_name (r.instance.brigades k)) n) b is in (found.0, (n, named_in (r.instance.brigades b) n found.1)))
