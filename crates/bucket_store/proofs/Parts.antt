-- Points of a brigade, as the model has them.
use Rattle.std.proofs.Common.{◌≡◌, ℕ, zero, suc, ◌-◌, ◌<◌, ◌≤◌, nat_le, Bool, true, false, cond, List, [], ◌∷◌, ◌++◌, Option, None, Some, refl, ap, ◌∙◌, arith, ◌⊎◌, inl, inr}
use Rattle.std.specs.Prelude.{if◌then◌else◌}
use Rattle.std.proofs.lemmas.Bool.Decides.{nat_tests}
use Rattle.bucket_ring.specs.declared.names.BucketId.{BucketId}
use Rattle.bucket_ring.specs.Lists.{same, times, found}
use Rattle.bucket_ring.specs.Laws.{same_self}
use Rattle.run_model.specs.declared.bucket.Bucket.{Bucket}
use Rattle.run_model.specs.declared.bucket.NamedBucket.{NamedBucket}
use Rattle.run_model.specs.Buckets.{is_data_kind}
use Rattle.run_model.specs.declared.bucket.Kind.{Kind}
use Rattle.run_model.specs.declared.bucket.Kind.TheVariants as kind
use Rattle.run_model.specs.declared.bucket.Content.{Content}
use Rattle.run_model.specs.declared.bucket.Content.TheVariants as content
use Rattle.run_model.specs.Cutting.{split_at, length_of, form_of, form_of_kind, Memory, OpenFile, Nowhere}
use Rattle.run_model.specs.BrigadeLists as model
use Rattle.run_model.specs.BrigadeLists.{length_in, front_to, back_from, place_before, is_short, partition_answer, partitioned}
use Rattle.bucket_store.specs.declared.parting.Point.{Point}
use Rattle.bucket_store.specs.declared.parting.Point.TheVariants as point
use Rattle.bucket_store.specs.Items.{Items, named, named_item, replaced}
use Rattle.bucket_store.specs.Points.{point_in}
use Rattle.bucket_store.specs.Laws.{place_cut, PointsAreTheModels}

first_case : (s : Bool) (a b t : Point) → cond s a b ≡ t → ((s ≡ true) × (a ≡ t)) ⊎ ((s ≡ false) × (b ≡ t))
first_case true a b t e = inl (refl, e)
first_case false a b t e = inr (refl, e)

past : (a b : ℕ) → nat_le a b ≡ false → b < a
past a b h = grind (arith, nat_tests)

short_size : (p : ℕ) (xs : Items) → point_in p xs ≡ point.Short → length_in (named xs) < p
unfolding point_in length_in
short_size zero [] e = absurd (cc)
short_size zero (x ∷ xs) e = absurd (cc)
short_size (suc p) [] e = omega arith
short_size (suc p) (x ∷ xs) e = elim (first_case (nat_le (length_of x.1.content) (suc p)) (point_in (suc p - length_of x.1.content) xs) (point.Inside x.0 (suc p)) point.Short e) [
  | inl q ↦ (let k : length_in (named xs) < suc p - length_of x.1.content = short_size (suc p - length_of x.1.content) xs q.1 in omega (arith, k))
  | inr q ↦ (let bad : point.Inside x.0 (suc p) ≡ point.Short = q.1 in absurd (cc))
]

at_size : (p : ℕ) (place : Option BucketId) (xs : Items) → point_in p xs ≡ point.At place → p ≤ length_in (named xs)
unfolding point_in length_in
at_size zero place xs e = omega arith
at_size (suc p) place [] e = absurd (cc)
at_size (suc p) place (x ∷ xs) e = elim (first_case (nat_le (length_of x.1.content) (suc p)) (point_in (suc p - length_of x.1.content) xs) (point.Inside x.0 (suc p)) (point.At place) e) [
  | inl q ↦ (let k : suc p - length_of x.1.content ≤ length_in (named xs) = at_size (suc p - length_of x.1.content) place xs q.1 in omega (arith, k))
  | inr q ↦ (let bad : point.Inside x.0 (suc p) ≡ point.At place = q.1 in absurd (cc))
]

inside_size : (p n : ℕ) (id : BucketId) (xs : Items) → point_in p xs ≡ point.Inside id n → p ≤ length_in (named xs)
unfolding point_in length_in
inside_size zero n id xs e = omega arith
inside_size (suc p) n id [] e = absurd (cc)
inside_size (suc p) n id (x ∷ xs) e = elim (first_case (nat_le (length_of x.1.content) (suc p)) (point_in (suc p - length_of x.1.content) xs) (point.Inside x.0 (suc p)) (point.Inside id n) e) [
  | inl q ↦ (let k : suc p - length_of x.1.content ≤ length_in (named xs) = inside_size (suc p - length_of x.1.content) n id xs q.1 in omega (arith, k))
  | inr q ↦ (let k : suc p < length_of x.1.content = past (length_of x.1.content) (suc p) q.0 in omega (arith, k))
]

whole_at : (new p : ℕ) (place : Option BucketId) (xs : Items) → point_in p xs ≡ point.At place → front_to p (named xs) ++ back_from new p (named xs) ≡ named xs
unfolding point_in front_to back_from
whole_at new zero place xs e = refl
whole_at new (suc p) place [] e = absurd (cc)
whole_at new (suc p) place (x ∷ xs) e = elim (first_case (nat_le (length_of x.1.content) (suc p)) (point_in (suc p - length_of x.1.content) xs) (point.Inside x.0 (suc p)) (point.At place) e) [
  | inl q ↦ (let fits : nat_le (length_of x.1.content) (suc p) ≡ true = q.0 in rw fits (ap (λ (ys : List NamedBucket). named_item x ∷ ys) (whole_at new (suc p - length_of x.1.content) place xs q.1)))
  | inr q ↦ (let bad : point.Inside x.0 (suc p) ≡ point.At place = q.1 in absurd (cc))
]

place_at : (new p : ℕ) (place : Option BucketId) (xs : Items) → point_in p xs ≡ point.At place → place_before (back_from new p (named xs)) ≡ place_cut place
unfolding point_in back_from
place_at new zero place [] e = let is : None ≡ place = cc in ap place_cut is
place_at new zero place (x ∷ xs) e = let is : Some x.0 ≡ place = cc in ap place_cut is
place_at new (suc p) place [] e = absurd (cc)
place_at new (suc p) place (x ∷ xs) e = elim (first_case (nat_le (length_of x.1.content) (suc p)) (point_in (suc p - length_of x.1.content) xs) (point.Inside x.0 (suc p)) (point.At place) e) [
  | inl q ↦ (let fits : nat_le (length_of x.1.content) (suc p) ≡ true = q.0 in rw fits (place_at new (suc p - length_of x.1.content) place xs q.1))
  | inr q ↦ (let bad : point.Inside x.0 (suc p) ≡ point.At place = q.1 in absurd (cc))
]

more : (s : Bool) (n : ℕ) → 0 < n → 0 < (if s then suc n else n)
more true n h = omega arith
more false n h = h

inside_times : (p n : ℕ) (id : BucketId) (xs : Items) → point_in p xs ≡ point.Inside id n → 0 < times id xs
unfolding point_in
inside_times zero n id [] e = absurd (cc)
inside_times zero n id (x ∷ xs) e = absurd (cc)
inside_times (suc p) n id [] e = absurd (cc)
inside_times (suc p) n id (x ∷ xs) e = elim (first_case (nat_le (length_of x.1.content) (suc p)) (point_in (suc p - length_of x.1.content) xs) (point.Inside x.0 (suc p)) (point.Inside id n) e) [
  | inl q ↦ more (same x.0 id) (times id xs) (inside_times (suc p - length_of x.1.content) n id xs q.1)
  | inr q ↦ (let here : x.0 ≡ id = cc in let hit : same x.0 id ≡ true = ap (λ i. same i id) here ∙ same_self id in rw hit (omega arith))
]

miss_first : (s : Bool) (n : ℕ) → (if s then suc n else n) ≤ 1 → 0 < n → s ≡ false
miss_first s n h k = grind arith

rest_once : (s : Bool) (n : ℕ) → (if s then suc n else n) ≤ 1 → n ≤ 1
rest_once s n h = grind arith

inside_whole : (new id : BucketId) (p n : ℕ) (x : Bucket) (xs : Items) → ((i : BucketId) → times i xs ≤ 1) → point_in p xs ≡ point.Inside id n → found id xs ≡ Some x
    → front_to p (named xs) ++ back_from new.birth p (named xs) ≡ named (replaced id (split_at n x).0 ((new, (split_at n x).1) ∷ []) xs)
unfolding point_in front_to back_from
inside_whole new id zero n x [] once e here = absurd (cc)
inside_whole new id zero n x (y ∷ xs) once e here = absurd (cc)
inside_whole new id (suc p) n x [] once e here = absurd (cc)
inside_whole new id (suc p) n x (y ∷ xs) once e here =
    elim (first_case (nat_le (length_of y.1.content) (suc p)) (point_in (suc p - length_of y.1.content) xs) (point.Inside y.0 (suc p)) (point.Inside id n) e) [
      | inl q ↦ (let fits : nat_le (length_of y.1.content) (suc p) ≡ true = q.0 in
          let miss : same y.0 id ≡ false = miss_first (same y.0 id) (times id xs) (once id) (inside_times (suc p - length_of y.1.content) n id xs q.1) in
          simp (fits, miss) (ap (λ (ys : List NamedBucket). named_item y ∷ ys)
          (inside_whole new id (suc p - length_of y.1.content) n x xs (λ i. rest_once (same y.0 i) (times i xs) (once i)) q.1 (rw miss at here))))
      | inr q ↦ (let over : nat_le (length_of y.1.content) (suc p) ≡ false = q.0 in
          let at : y.0 ≡ id = cc in
          let size : suc p ≡ n = cc in
          let hit : same y.0 id ≡ true = ap (λ i. same i id) at ∙ same_self id in
          let is : Some y.1 ≡ Some x = rw hit at here in
          let one : y.1 ≡ x = cc in
          simp (over, hit) (ap (λ (i : BucketId). named ((i, (split_at (suc p) y.1).0) ∷ (new, (split_at (suc p) y.1).1) ∷ xs)) at
          ∙ (ap (λ (k : ℕ). named ((id, (split_at k y.1).0) ∷ (new, (split_at k y.1).1) ∷ xs)) size
          ∙ ap (λ (b : Bucket). named ((id, (split_at n b).0) ∷ (new, (split_at n b).1) ∷ xs)) one)))
    ]

-- a bucket that a point lies inside is longer than what stands before the point
pub inside_short : (id : BucketId) (p n : ℕ) (x : Bucket) (xs : Items) → ((i : BucketId) → times i xs ≤ 1) → point_in p xs ≡ point.Inside id n → found id xs ≡ Some x → n < length_of x.content
unfolding point_in
inside_short id zero n x [] once e here = absurd (cc)
inside_short id zero n x (y ∷ xs) once e here = absurd (cc)
inside_short id (suc p) n x [] once e here = absurd (cc)
inside_short id (suc p) n x (y ∷ xs) once e here =
    elim (first_case (nat_le (length_of y.1.content) (suc p)) (point_in (suc p - length_of y.1.content) xs) (point.Inside y.0 (suc p)) (point.Inside id n) e) [
      | inl q ↦ (let miss : same y.0 id ≡ false = miss_first (same y.0 id) (times id xs) (once id) (inside_times (suc p - length_of y.1.content) n id xs q.1) in
          inside_short id (suc p - length_of y.1.content) n x xs (λ i. rest_once (same y.0 i) (times i xs) (once i)) q.1 (rw miss at here))
      | inr q ↦ (let at : y.0 ≡ id = cc in
          let size : suc p ≡ n = cc in
          let hit : same y.0 id ≡ true = ap (λ i. same i id) at ∙ same_self id in
          let is : Some y.1 ≡ Some x = rw hit at here in
          let one : y.1 ≡ x = cc in
          let over : suc p < length_of y.1.content = past (length_of y.1.content) (suc p) q.0 in
          let long : length_of y.1.content ≡ length_of x.content = ap (λ (b : Bucket). length_of b.content) one in
          omega arith)
    ]

-- a bucket with bytes is data, where its content fits its kind
pub bytes_are_data : (k : Kind) (c : Content) (n : ℕ) → form_of c ≡ form_of_kind k → n < length_of c → is_data_kind k ≡ true
bytes_are_data kind.Heap c n fits lt = refl
bytes_are_data kind.Transient c n fits lt = refl
bytes_are_data kind.Immortal c n fits lt = refl
bytes_are_data (kind.Pool p) c n fits lt = refl
bytes_are_data kind.File c n fits lt = refl
bytes_are_data kind.Flush (content.Bytes bs) n fits lt = absurd (let no : Memory ≡ Nowhere = fits in cc)
bytes_are_data kind.Flush (content.Range file start len) n fits lt = absurd (let no : OpenFile ≡ Nowhere = fits in cc)
bytes_are_data kind.Flush content.Nothing n fits lt = absurd (omega arith)
bytes_are_data kind.Eos (content.Bytes bs) n fits lt = absurd (let no : Memory ≡ Nowhere = fits in cc)
bytes_are_data kind.Eos (content.Range file start len) n fits lt = absurd (let no : OpenFile ≡ Nowhere = fits in cc)
bytes_are_data kind.Eos content.Nothing n fits lt = absurd (omega arith)

inside_place : (new p n : ℕ) (id : BucketId) (xs : Items) → point_in p xs ≡ point.Inside id n → place_before (back_from new p (named xs)) ≡ model.Found new
unfolding point_in back_from
inside_place new zero n id [] e = absurd (cc)
inside_place new zero n id (x ∷ xs) e = absurd (cc)
inside_place new (suc p) n id [] e = absurd (cc)
inside_place new (suc p) n id (x ∷ xs) e = elim (first_case (nat_le (length_of x.1.content) (suc p)) (point_in (suc p - length_of x.1.content) xs) (point.Inside x.0 (suc p)) (point.Inside id n) e) [
  | inl q ↦ (let fits : nat_le (length_of x.1.content) (suc p) ≡ true = q.0 in rw fits (inside_place new (suc p - length_of x.1.content) n id xs q.1))
  | inr q ↦ (let over : nat_le (length_of x.1.content) (suc p) ≡ false = q.0 in rw over refl)
]

pub points_are_the_models : PointsAreTheModels
points_are_the_models = record {
  short = λ new p xs e. let is : is_short p (named xs) ≡ true = grind (arith, nat_tests, short_size p xs e) in rw is refl;
  short_same = λ new p xs e. let is : is_short p (named xs) ≡ true = grind (arith, nat_tests, short_size p xs e) in rw is refl;
  at = λ new p place xs e. let is : is_short p (named xs) ≡ false = grind (arith, nat_tests, at_size p place xs e) in rw is (place_at new p place xs e);
  at_same = λ new p place xs e. let is : is_short p (named xs) ≡ false = grind (arith, nat_tests, at_size p place xs e) in rw is (whole_at new p place xs e);
  inside = λ new p n id xs e. let is : is_short p (named xs) ≡ false = grind (arith, nat_tests, inside_size p n id xs e) in rw is (inside_place new p n id xs e);
  inside_split = λ new id p n x xs once e here. let is : is_short p (named xs) ≡ false = grind (arith, nat_tests, inside_size p n id xs e) in
      rw is (inside_whole new id p n x xs once e here);
}
