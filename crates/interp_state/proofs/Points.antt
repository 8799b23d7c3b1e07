-- Where a point of a brigade lies, as its buckets read.
use Rattle.std.proofs.Common.{◌≡◌, ℕ, zero, suc, ◌-◌, ◌<◌, ◌≤◌, nat_le, Bool, true, false, cond, [], ◌∷◌, ◌++◌, Option, None, Some, is_some, refl, ap, ◌∙◌, arith, ◌⊎◌, inl, inr}
use Rattle.std.specs.Prelude.{if◌then◌else◌}
use Rattle.bucket_ring.specs.declared.names.BucketId.{BucketId}
use Rattle.bucket_ring.specs.Lists.{same, times, found}
use Rattle.bucket_ring.specs.Laws.{same_self, found_times}
use Rattle.run_model.specs.declared.bucket.Bucket.{Bucket}
use Rattle.run_model.specs.Cutting.{length_of}
use Rattle.run_model.specs.BrigadeLists.{bucket_across}
use Rattle.bucket_store.specs.Items.{Item, Items, named, named_item}
pub use Rattle.bucket_store.specs.declared.parting.Point.{Point}
pub use Rattle.bucket_store.specs.declared.parting.Point.TheVariants.{Short, At, Inside}
use Rattle.bucket_store.specs.Points.{point_in, is_inside}
use Rattle.interp_state.specs.Seen.{read_in}

-- where a point lies
pub by_point : (p : ℕ) (xs : Items) (C : Type 0) → (point_in p xs ≡ Short → C) → ((place : Option BucketId) → point_in p xs ≡ At place → C)
    → ((id : BucketId) (n : ℕ) → point_in p xs ≡ Inside id n → C) → C
unfolding point_in
by_point zero [] C short at inside = at None refl
by_point zero (x ∷ xs) C short at inside = at (Some x.0) refl
by_point (suc p) [] C short at inside = short refl
by_point (suc p) (x ∷ xs) C short at inside = go (by_point (suc p - length_of x.1.content) xs C) (nat_le (length_of x.1.content) (suc p)) refl where
  go : ((point_in (suc p - length_of x.1.content) xs ≡ Short → C) → ((place : Option BucketId) → point_in (suc p - length_of x.1.content) xs ≡ At place → C)
      → ((id : BucketId) (n : ℕ) → point_in (suc p - length_of x.1.content) xs ≡ Inside id n → C) → C)
      → (t : Bool) → nat_le (length_of x.1.content) (suc p) ≡ t → C
  go later true fits = later (λ e. short (rw fits e)) (λ place e. at place (rw fits e)) (λ id n e. inside id n (rw fits e))
  go later false over = inside x.0 (suc p) (rw over refl)

pub point_read : (runs : ℕ → Bool) (p : ℕ) (xs : Items) → point_in p (read_in runs xs) ≡ point_in p xs
unfolding point_in
point_read runs zero [] = refl
point_read runs zero (x ∷ xs) = refl
point_read runs (suc p) [] = refl
point_read runs (suc p) (x ∷ xs) = ap (λ (q : Point). if nat_le (length_of x.1.content) (suc p) then q else Inside x.0 (suc p)) (point_read runs (suc p - length_of x.1.content) xs)

first_case : (s : Bool) (a b t : Point) → cond s a b ≡ t → ((s ≡ true) × (a ≡ t)) ⊎ ((s ≡ false) × (b ≡ t))
first_case true a b t e = inl (refl, e)
first_case false a b t e = inr (refl, e)

-- no bucket is split where the point lies between two
pub across_none : (p : ℕ) (xs : Items) (q : Point) → point_in p xs ≡ q → is_inside q ≡ false → bucket_across p (named xs) ≡ None
unfolding point_in bucket_across
across_none zero xs q e between = refl
across_none (suc p) [] q e between = refl
across_none (suc p) (x ∷ xs) q e between = elim (first_case (nat_le (length_of x.1.content) (suc p)) (point_in (suc p - length_of x.1.content) xs) (Inside x.0 (suc p)) q e) [
  | inl h ↦ (let fits : nat_le (length_of x.1.content) (suc p) ≡ true = h.0 in rw fits (across_none (suc p - length_of x.1.content) xs q h.1 between))
  | inr h ↦ absurd (let bad : true ≡ false = ap is_inside h.1 ∙ between in cc)
]

miss_first : (s : Bool) (n : ℕ) → (if s then suc n else n) ≤ 1 → 0 < n → s ≡ false
miss_first true n h k = absurd (omega arith)
miss_first false n h k = refl

rest_once : (s : Bool) (n : ℕ) → (if s then suc n else n) ≤ 1 → n ≤ 1
rest_once true n h = omega arith
rest_once false n h = h

-- the bucket that the point lies inside
pub inside_found : (p n : ℕ) (id : BucketId) (xs : Items) → ((i : BucketId) → times i xs ≤ 1) → point_in p xs ≡ Inside id n → (x : Bucket)
    × ((found id xs ≡ Some x) × (bucket_across p (named xs) ≡ Some (named_item (id, x))))
unfolding point_in bucket_across
inside_found zero n id [] once e = absurd (cc)
inside_found zero n id (x ∷ xs) once e = absurd (cc)
inside_found (suc p) n id [] once e = absurd (cc)
inside_found (suc p) n id (y ∷ xs) once e = elim (first_case (nat_le (length_of y.1.content) (suc p)) (point_in (suc p - length_of y.1.content) xs) (Inside y.0 (suc p)) (Inside id n) e) [
  | inl q ↦ (let fits : nat_le (length_of y.1.content) (suc p) ≡ true = q.0 in
      let k = inside_found (suc p - length_of y.1.content) n id xs (λ i. rest_once (same y.0 i) (times i xs) (once i)) q.1 in
      let miss : same y.0 id ≡ false = miss_first (same y.0 id) (times id xs) (once id) (found_times id xs (ap is_some k.1.0)) in
      (k.0, (rw miss k.1.0, rw fits k.1.1)))
  | inr q ↦ (let over : nat_le (length_of y.1.content) (suc p) ≡ false = q.0 in
      let at : y.0 ≡ id = cc in
      let hit : same y.0 id ≡ true = ap (λ i. same i id) at ∙ same_self id in
      (y.1, (rw hit refl, rw over (ap (λ (i : BucketId). Some (named_item (i, y.1))) at))))
]

more : (s : Bool) (n : ℕ) → 0 < n → 0 < (if s then suc n else n)
more true n h = omega arith
more false n h = h

-- the place of a point is that of a bucket that is there
pub place_there : (p : ℕ) (id : BucketId) (xs : Items) → point_in p xs ≡ At (Some id) → 0 < times id xs
unfolding point_in
place_there zero id [] e = absurd (cc)
place_there zero id (x ∷ xs) e =
    let here : x.0 ≡ id = cc in
    let hit : same x.0 id ≡ true = ap (λ i. same i id) here ∙ same_self id in
    rw hit (omega arith)
place_there (suc p) id [] e = absurd (cc)
place_there (suc p) id (x ∷ xs) e = elim (first_case (nat_le (length_of x.1.content) (suc p)) (point_in (suc p - length_of x.1.content) xs) (Inside x.0 (suc p)) (At (Some id)) e) [
  | inl q ↦ more (same x.0 id) (times id xs) (place_there (suc p - length_of x.1.content) id xs q.1)
  | inr q ↦ (let bad : Inside x.0 (suc p) ≡ At (Some id) = q.1 in absurd (cc))
]

-- a bucket is there in a list that has it
pub times_among : (id : BucketId) (x : Bucket) (xs ys : Items) → 0 < times id (xs ++ (id, x) ∷ ys)
times_among id x [] ys = rw (same_self id) (omega arith)
times_among id x (y ∷ xs) ys = more (same y.0 id) (times id (xs ++ (id, x) ∷ ys)) (times_among id x xs ys)

pub times_behind : (id : BucketId) (y : Item) (xs ys : Items) → 0 < times id ys → 0 < times id (xs ++ y ∷ ys)
times_behind id y [] ys h = more (same y.0 id) (times id ys) h
times_behind id y (x ∷ xs) ys h = more (same x.0 id) (times id (xs ++ y ∷ ys)) (times_behind id y xs ys h)
