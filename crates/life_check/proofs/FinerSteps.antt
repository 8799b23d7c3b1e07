-- A split, a read and a partition make a brigade finer.
use Rattle.std.proofs.Common.{◌≡◌, ℕ, zero, suc, ◌-◌, Bool, true, false, ◌==◌, nat_le, nat_lt, cond, List, [], ◌∷◌, ◌++◌, Some, None, inl, inr, refl, sym, ◌∙◌, ap, subst, arith}
use Rattle.std.proofs.lemmas.List.Elements.{All-head, All-tail}
use Rattle.std.proofs.lemmas.Bool.Decides.{nat_tests}
use Rattle.std.specs.Prelude.{All}
use Rattle.run_model.specs.declared.bucket.Bucket.{Bucket}
use Rattle.run_model.specs.declared.bucket.Content.{Content}
use Rattle.run_model.specs.declared.bucket.Content.TheVariants as content
use Rattle.run_model.specs.declared.bucket.Home.{Home}
use Rattle.run_model.specs.declared.bucket.Home.TheVariants as home
use Rattle.run_model.specs.declared.bucket.Kind.{Kind}
use Rattle.run_model.specs.declared.bucket.Kind.TheVariants as kind
use Rattle.run_model.specs.declared.bucket.NamedBucket.{NamedBucket}
use Rattle.run_model.specs.Buckets.{is_data_kind, is_eos_kind, is_data}
use Rattle.run_model.specs.BrigadeLists.{buckets_before, buckets_from, first_bucket, bucket_named, Metadata, TooLong, split_refusal, first_bytes, rest_as, first_split, bucket_split, front_to}
use Rattle.run_model.specs.BrigadeLists.{back_from, is_short, partitioned}
use Rattle.run_model.specs.BucketSteps.{first_read, bucket_read, rest_named}
use Rattle.run_model.specs.Cutting.{FitsKind, form_of, form_of_kind, length_of, read_limit, read_as, heap_of, rest_of}
use Rattle.model_laws.proofs.BrigadeLists.{bytes_are_data}
use Rattle.life_state.specs.States.{Homes}
use Rattle.life_check.specs.Meaning.{class_has}
use Rattle.life_check.proofs.Finer.{Like, AreParts, Finer, like_itself, finer_same}

pub data_not_eos : (k : Kind) → is_data_kind k ≡ true → is_eos_kind k ≡ false
data_not_eos kind.Eos is = absurd (cc)
data_not_eos k is = refl

-- a bucket that is not refused a split is data
pub split_data : (n : ℕ) (x : NamedBucket) → split_refusal n x ≡ None → is_data x ≡ true
split_data n x is = by_test (is_data x) refl is where
  by_test : (c : Bool) → is_data x ≡ c → cond c (cond (nat_lt (length_of x.bucket.content) n) (Some TooLong) None) (Some Metadata) ≡ None → is_data x ≡ true
  by_test true tells is = tells
  by_test false tells is = absurd (cc)

-- a bucket of a file's range is of the kind FILE
range_file : (k : Kind) (file start len : ℕ) → form_of (content.Range file start len) ≡ form_of_kind k → k ≡ kind.File
range_file kind.File file start len is = refl
range_file k file start len is = absurd (cc)

-- What is done to the bucket of a name, where it stands.
changed_there : (n : ℕ) (xs : List NamedBucket) (R : List NamedBucket → List NamedBucket → Type 0) (change : List NamedBucket → List NamedBucket) (x : NamedBucket)
    → bucket_named n xs ≡ Some x → ((y : NamedBucket) (ys zs : List NamedBucket) → R ys zs → R (y ∷ ys) (y ∷ zs)) → ((ys : List NamedBucket) → R (change (x ∷ ys)) (x ∷ ys))
    → R (buckets_before n xs ++ change (buckets_from n xs)) xs
unfolding buckets_from buckets_before
changed_there n [] R change x is keep here = absurd (cc)
changed_there n (y ∷ ys) R change x is keep here = by_name (y.name == n) (λ still. changed_there n ys R change x still keep here) is where
  by_name : (c : Bool) → (bucket_named n ys ≡ Some x → R (buckets_before n ys ++ change (buckets_from n ys)) ys) → first_bucket (cond c (y ∷ ys) (buckets_from n ys)) ≡ Some x
      → R (cond c [] (y ∷ buckets_before n ys) ++ change (cond c (y ∷ ys) (buckets_from n ys))) (y ∷ ys)
  by_name true rest is = let same : x ≡ y = sym (cc) in subst (λ z. R (change (z ∷ ys)) (z ∷ ys)) same (here ys)
  by_name false rest is = keep y (buckets_before n ys ++ change (buckets_from n ys)) ys (rest is)

module _ (C : Homes → Home → Type 0) (free : (h : Homes) → C h home.Free) where
  first_like : (n : ℕ) (x : NamedBucket) → Like C (first_bytes n x) x
  first_like n x = record { bytes = refl; ends = refl; classed = λ t h. h; covered = λ h c. c }

  rest_like : (new n : ℕ) (x : NamedBucket) → Like C (rest_as new n x) x
  rest_like new n x = record { bytes = refl; ends = refl; classed = λ t h. h; covered = λ h c. c }

  split_parts : (new n : ℕ) (x : NamedBucket) → is_data x ≡ true → AreParts C new (first_bytes n x) (rest_as new n x) x
  split_parts new n x is = record { name = refl; fresh = refl; bytes = is; middle = data_not_eos x.bucket.kind is; first = first_like n x; rest = rest_like new n x }

  kept_finer : (new : ℕ) (y : NamedBucket) (ys zs : List NamedBucket) → Finer C new ys zs → Finer C new (y ∷ ys) (y ∷ zs)
  unfolding Finer
  kept_finer new y ys zs f = inl (refl, like_itself C y, f)

  parted_finer : (new : ℕ) (y z x : NamedBucket) (xs : List NamedBucket) → AreParts C new y z x → Finer C new (y ∷ z ∷ xs) (x ∷ xs)
  unfolding Finer
  parted_finer new y z x xs parts = inr (z, xs, refl, parts, finer_same C new xs)

  turned_finer : (new : ℕ) (y x : NamedBucket) (xs : List NamedBucket) → y.name ≡ x.name → Like C y x → Finer C new (y ∷ xs) (x ∷ xs)
  unfolding Finer
  turned_finer new y x xs name like = inl (name, like, finer_same C new xs)

  pub split_finer : (new at n : ℕ) (x : NamedBucket) (xs : List NamedBucket) → bucket_named at xs ≡ Some x → split_refusal n x ≡ None → Finer C new (bucket_split new at n xs) xs
  split_finer new at n x xs is may =
      changed_there at xs (Finer C new) (first_split new n) x is (kept_finer new) (λ ys. parted_finer new (first_bytes n x) (rest_as new n x) x ys (split_parts new n x (split_data n x may)))

  -- a read turns a FILE bucket into HEAP, with the rest of a longer range behind it
  read_there : (new : ℕ) (bytes : List ℕ) (x : NamedBucket) (ys : List NamedBucket) → FitsKind x.bucket → Finer C new (first_read new bytes (x ∷ ys)) (x ∷ ys)
  read_there new bytes x ys fits = of_content x.bucket.content refl where
    heap : NamedBucket
    heap = record x { bucket = heap_of (content.Bytes bytes) }

    of_file : x.bucket.kind ≡ kind.File → Like C heap x
    of_file is = record {
      bytes = sym (ap is_data_kind is);
      ends = sym (ap is_eos_kind is);
      classed = λ t h. sym (ap (class_has t) is) ∙ h;
      covered = λ h c. free h;
    }

    behind : Bucket
    behind = record x.bucket { content = rest_of read_limit x.bucket.content }

    of_length : (c : Bool) → x.bucket.kind ≡ kind.File → Finer C new (heap ∷ (rest_named new (cond c None (Some behind)) ++ ys)) (x ∷ ys)
    of_length true is = turned_finer new heap x ys refl (of_file is)
    of_length false is = parted_finer new heap (record { name = new; bucket = behind }) x ys (record {
      name = refl;
      fresh = refl;
      bytes = ap is_data_kind is;
      middle = ap is_eos_kind is;
      first = of_file is;
      rest = record { bytes = refl; ends = refl; classed = λ t h. h; covered = λ h c. c };
    })

    of_content : (c : Content) → x.bucket.content ≡ c → Finer C new ((record x { bucket = (read_as bytes x.bucket c).0 }) ∷ (rest_named new (read_as bytes x.bucket c).1 ++ ys)) (x ∷ ys)
    of_content (content.Bytes bs) is = turned_finer new x x ys refl (like_itself C x)
    of_content (content.Range file start len) is = of_length (nat_le len read_limit) (range_file x.bucket.kind file start len (sym (ap form_of is) ∙ fits.holds))
    of_content content.Nothing is = turned_finer new x x ys refl (like_itself C x)

  pub read_finer : (new at : ℕ) (bytes : List ℕ) (x : NamedBucket) (xs : List NamedBucket) → bucket_named at xs ≡ Some x → FitsKind x.bucket → Finer C new (bucket_read new at bytes xs) xs
  read_finer new at bytes x xs is fits = changed_there at xs (Finer C new) (first_read new bytes) x is (kept_finer new) (λ ys. read_there new bytes x ys fits)

  parted_at : (new point : ℕ) (xs : List NamedBucket) → All (λ x. FitsKind x.bucket) xs → Finer C new (front_to point xs ++ back_from new point xs) xs
  unfolding front_to back_from
  parted_at new zero xs fits = finer_same C new xs
  parted_at new (suc p) [] fits = finer_same C new []
  parted_at new (suc p) (x ∷ xs) fits =
      by_length (nat_le (length_of x.bucket.content) (suc p)) refl (parted_at new (suc p - length_of x.bucket.content) xs (All-tail (λ y. FitsKind y.bucket) x xs fits)) where
        by_length : (c : Bool) → nat_le (length_of x.bucket.content) (suc p) ≡ c
            → Finer C new (front_to (suc p - length_of x.bucket.content) xs ++ back_from new (suc p - length_of x.bucket.content) xs) xs
            → Finer C new (cond c (x ∷ front_to (suc p - length_of x.bucket.content) xs) (first_bytes (suc p) x ∷ []) ++ cond c (back_from new (suc p - length_of x.bucket.content) xs)
            (rest_as new (suc p) x ∷ xs)) (x ∷ xs)
        by_length true tells f = kept_finer new x (front_to (suc p - length_of x.bucket.content) xs ++ back_from new (suc p - length_of x.bucket.content) xs) xs f
        by_length false tells f =
            parted_finer new (first_bytes (suc p) x) (rest_as new (suc p) x) x xs
            (split_parts new (suc p) x (bytes_are_data (suc p) x.bucket (All-head (λ y. FitsKind y.bucket) x xs fits) (grind (arith, nat_tests))))

  pub partition_finer : (new point : ℕ) (xs : List NamedBucket) → All (λ x. FitsKind x.bucket) xs → Finer C new (partitioned new point xs) xs
  partition_finer new point xs fits = by_test (is_short point xs) where
    by_test : (c : Bool) → Finer C new (cond c xs (front_to point xs ++ back_from new point xs)) xs
    by_test true = finer_same C new xs
    by_test false = parted_at new point xs fits
