-- A ring has no more buckets than names were given.
use Rattle.std.proofs.Common.{◌≡◌, eqb, ℕ, suc, ◌+◌, ◌<◌, ◌≤◌, Bool, true, false, Option, None, Some, is_some, List, [], ◌∷◌, length, map, refl, sym, ◌∙◌, ap, arith}
use Rattle.std.specs.Prelude.{if◌then◌else◌}
use Rattle.std.specs.List.{IsDistinct, AllByRecursion, list_any}
use Rattle.std.proofs.lemmas.Bool.{eq-eqb, ne_eqb, eqb-true}
use Rattle.std.proofs.lemmas.List.{length-map}
use Rattle.std.proofs.lemmas.Map.Steps.{length-le_from_distinct_below}
use Rattle.bucket_ring.specs.declared.names.BucketId.{BucketId}
use Rattle.bucket_ring.specs.Lists.{list_at, same, times}
use Rattle.bucket_ring.specs.Kept.{once_in, IsKept}
use Rattle.bucket_ring.specs.Laws.{same_self, same_name, times_found, in_found}
use Rattle.bucket_ring.proofs.Counted.{once_most}

more : (s : Bool) (n : ℕ) → 0 < n → 0 < (if s then suc n else n)
more true n h = omega arith
more false n h = h

less : (s : Bool) (n : ℕ) → (if s then suc n else n) ≤ 1 → n ≤ 1
less true n h = omega arith
less false n h = h

module _ {T : Type 0} where
  abbrev births : List (BucketId × T) → List ℕ
  births xs = map (λ (x : BucketId × T). x.0.birth) xs

  head_here : (b : BucketId × T) (bs : List (BucketId × T)) → 0 < times b.0 (b ∷ bs)
  head_here b bs = rw (same_self b.0) (omega arith)

  apart_from : (birth : ℕ) (xs : List (BucketId × T)) → ((j : BucketId) → 0 < times j xs → birth ≡ j.birth → ⊥) → AllByRecursion (λ y. eqb birth y ≡ false) (births xs)
  apart_from birth [] none = tt
  apart_from birth (x ∷ xs) none = (ne_eqb birth x.0.birth (none x.0 (head_here x xs)), apart_from birth xs (λ j h e. none j (more (same x.0 j) (times j xs) h) e))

  distinct : (xs : List (BucketId × T)) → ((i : BucketId) → times i xs ≤ 1) → ((i j : BucketId) → 0 < times i xs → 0 < times j xs → i.birth ≡ j.birth → i.slot ≡ j.slot) → IsDistinct eqb (births xs)
  unfolding IsDistinct
  distinct [] once apart = tt
  distinct (x ∷ xs) once apart = (
    apart_from x.0.birth xs (λ j h e. again j h (apart x.0 j (head_here x xs) (more (same x.0 j) (times j xs) h) e) e),
    distinct xs (λ i. less (same x.0 i) (times i xs) (once i)) (λ i j hi hj e. apart i j (more (same x.0 i) (times i xs) hi) (more (same x.0 j) (times j xs) hj) e),
  ) where
    again : (j : BucketId) → 0 < times j xs → x.0.slot ≡ j.slot → x.0.birth ≡ j.birth → ⊥
    again j h slots births_same =
        let is : same x.0 j ≡ true = rw (eq-eqb x.0.slot j.slot slots, eq-eqb x.0.birth j.birth births_same) refl in
        let two : suc (times j xs) ≤ 1 = rw is at (once j) in
        omega arith

  all_young : (next q : ℕ) (xs : List (BucketId × T)) → ((i : BucketId) → 0 < times i xs → i.birth < next) → list_any (eqb q) (births xs) ≡ true → q < next
  all_young next q [] young h = absurd (cc)
  all_young next q (x ∷ xs) young h = go (all_young next q xs) (eqb q x.0.birth) refl where
    go : (((i : BucketId) → 0 < times i xs → i.birth < next) → list_any (eqb q) (births xs) ≡ true → q < next) → (s : Bool) → eqb q x.0.birth ≡ s → q < next
    go later true is = let e = eqb-true q x.0.birth is in let y = young x.0 (head_here x xs) in omega arith
    go later false is = later (λ i k. young i (more (same x.0 i) (times i xs) k)) (rw is at h)

  -- births that are apart are no more than there are names
  pub fewer_than_names : (next : ℕ) (xs : List (BucketId × T)) → ((i : BucketId) → times i xs ≤ 1) → ((i j : BucketId) → 0 < times i xs → 0 < times j xs → i.birth ≡ j.birth → i.slot ≡ j.slot)
      → ((i : BucketId) → 0 < times i xs → i.birth < next) → length xs ≤ next
  fewer_than_names next xs once apart young =
      let l : length (births xs) ≤ next = length-le_from_distinct_below (births xs) next (distinct xs once apart) (λ q h. all_young next q xs young h) in
      omega (arith, l, length-map xs (λ (x : BucketId × T). x.0.birth))

  -- a ring
  pub short : (at : BucketId → Option ℕ) (lists : ℕ → Option (List (BucketId × T))) (next r : ℕ) → IsKept at lists next → length (list_at lists r) ≤ next
  short at lists next r kept =
      fewer_than_names next (list_at lists r) (λ i. rw (kept.counted i r) (once_most r (at i))) (λ i j hi hj e. kept.births i j (there i hi) (there j hj) e) (λ i h. kept.young i (there i h)) where
        there : (i : BucketId) → 0 < times i (list_at lists r) → is_some (at i) ≡ true
        there i h = ap is_some (in_found at lists next kept i r (times_found i (list_at lists r) h))

  -- a ring that does not have a bucket, with that bucket: mid and lists2 are without it
  pub short_with : (at mid : BucketId → Option ℕ) (lists lists2 : ℕ → Option (List (BucketId × T))) (next r : ℕ) (id : BucketId) (x : T) → IsKept at lists next → is_some (at id) ≡ true
      → ((j : BucketId) → mid j ≡ (if same id j then None else at j))
      → ((j : BucketId) → times j (list_at lists2 r) ≡ once_in r (mid j)) → length (list_at lists2 r) + 1 ≤ next
  short_with at mid lists lists2 next r id x kept there without counted =
      let all : length ((id, x) ∷ list_at lists2 r) ≤ next =
      fewer_than_names next ((id, x) ∷ list_at lists2 r) once (λ i j hi hj e. kept.births i j (is_there i hi) (is_there j hj) e) (λ i h. kept.young i (is_there i h)) in
      omega arith where
        is_left : (i : BucketId) (b : Bool) → mid i ≡ (if b then None else at i) → 0 < once_in r (mid i) → is_some (at i) ≡ true
        is_left i true e h = absurd (let none : once_in r (mid i) ≡ 0 = ap (once_in r) e in omega arith)
        is_left i false e h = held (at i) (let same_count : once_in r (mid i) ≡ once_in r (at i) = ap (once_in r) e in omega arith) where
          held : (o : Option ℕ) → 0 < once_in r o → is_some o ≡ true
          held None h = absurd (omega arith)
          held (Some q) h = refl

        is_there : (i : BucketId) → 0 < times i ((id, x) ∷ list_at lists2 r) → is_some (at i) ≡ true
        is_there i h = go (same id i) refl h where
          go : (b : Bool) → same id i ≡ b → 0 < (if b then suc (times i (list_at lists2 r)) else times i (list_at lists2 r)) → is_some (at i) ≡ true
          go true e h = ap (λ (j : BucketId). is_some (at j)) (sym (same_name id i e)) ∙ there
          go false e h = is_left i (same id i) (without i) (let c = counted i in omega arith)

        once : (i : BucketId) → times i ((id, x) ∷ list_at lists2 r) ≤ 1
        once i = go (same id i) (without i) where
          go : (b : Bool) → mid i ≡ (if b then None else at i) → (if b then suc (times i (list_at lists2 r)) else times i (list_at lists2 r)) ≤ 1
          go true e = let none : once_in r (mid i) ≡ 0 = ap (once_in r) e in let c = counted i in omega arith
          go false e = let most : once_in r (mid i) ≤ 1 = once_most r (mid i) in let c = counted i in omega arith
