-- Walks along a brigade.
use Rattle.std.proofs.Common.{◌≡◌, ℕ, suc, ◌<◌, ◌≤◌, Option, None, Some, Ok, Err, List, [], ◌∷◌, drop, length, refl, ap, subst, arith}
use Rattle.std.specs.Prelude.{IfSome}
use Rattle.bucket_ring.specs.declared.names.BucketId.{BucketId}
use Rattle.bucket_ring.specs.Lists.{times, rest, first_of, next_in, or_end, found}
use Rattle.bucket_ring.specs.Kept.{once_in}
use Rattle.bucket_ring.specs.Laws.{same_self}
use Rattle.bucket_store.specs.Items.{from_place}
use Rattle.bucket_store.proofs.Lists.{rest_head, rest_next}

once_most : (r : ℕ) (o : Option ℕ) → once_in r o ≤ 1
once_most r None = omega arith
once_most r (Some q) = grind arith

-- each name stands once in a brigade
pub once_listed : (r : ℕ) (o : Option ℕ) (n : ℕ) → n ≡ once_in r o → n ≤ 1
once_listed r o n e = rw e (once_most r o)

pub if_some : {X : Type 0} (P : X → Type 0) (o : Option X) → ((x : X) → o ≡ Some x → P x) → IfSome o P
if_some P None told = tt
if_some P (Some x) told = told x refl

pub goes_on : (r : ℕ) (o : Option BucketId) (j : BucketId) → or_end r o ≡ Ok j → o ≡ Some j
goes_on r None j e = cc
goes_on r (Some i) j e = cc

pub goes_no_further : (r q : ℕ) (o : Option BucketId) → or_end r o ≡ Err q → None ≡ o
goes_no_further r q None e = refl
goes_no_further r q (Some i) e = cc

module _ {T : Type 0} where
  stops : (r q : ℕ) (xs : List (BucketId × T)) → or_end r (first_of xs) ≡ Err q → [] ≡ xs
  stops r q [] e = refl
  stops r q (x ∷ xs) e = cc

  -- behind a bucket
  pub behind_some : (r : ℕ) (id j : BucketId) (xs : List (BucketId × T)) → ((i : BucketId) → times i xs ≤ 1) → next_in r id xs ≡ Ok j → rest j xs ≡ drop 1 (rest id xs)
  behind_some r id j xs once e = rest_next id j xs once (goes_on r (first_of (drop 1 (rest id xs))) j e)

  pub behind_none : (r q : ℕ) (id : BucketId) (xs : List (BucketId × T)) → next_in r id xs ≡ Err q → [] ≡ drop 1 (rest id xs)
  behind_none r q id xs e = stops r q (drop 1 (rest id xs)) e

  head_is : (b : BucketId × T) (bs : List (BucketId × T)) → rest b.0 (b ∷ bs) ≡ b ∷ bs
  head_is b bs = rw (same_self b.0) refl

-- a walk begins with the whole brigade
pub start_whole : {T : Type 0} (xs : List (BucketId × T)) (place : Option BucketId) → place ≡ first_of xs → from_place place xs ≡ xs
start_whole [] place e = rw e refl
start_whole (b ∷ bs) place e = rw e (head_is b bs)

-- one bucket and the others
pub count_head : {T : Type 0} (id : BucketId) (xs : List (BucketId × T)) (x : T) → found id xs ≡ Some x → length (rest id xs) ≡ suc (length (drop 1 (rest id xs)))
count_head id xs x e = ap length (rest_head id xs x e)

-- fewer buckets are left behind one of them
pub fewer_behind : {T : Type 0} (id : BucketId) (place behind : Option BucketId) (xs : List (BucketId × T)) (x : T) → found id xs ≡ Some x → place ≡ Some id
    → from_place behind xs ≡ drop 1 (rest id xs)
    → length (from_place behind xs) < length (from_place place xs)
fewer_behind id place behind xs x e here told =
    let less = ap length told in
    let one = count_head id xs x e in
    let at : length (from_place place xs) ≡ length (rest id xs) = ap (λ p. length (from_place p xs)) here in
    omega (arith, less, one, at)

pub told_some : {X : Type 0} (P : X → Type 0) (o : Option X) → IfSome o P → (x : X) → o ≡ Some x → P x
told_some P None told x e = cc
told_some P (Some y) told x e = let is : y ≡ x = cc in subst P is told
