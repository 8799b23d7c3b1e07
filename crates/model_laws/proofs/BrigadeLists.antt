-- Cuts of brigades: parts in order, the lengths of a front, and names.
use Rattle.std.proofs.Common.{◌≡◌, ℕ, zero, suc, ◌+◌, ◌-◌, ◌<◌, ◌≤◌, Bool, true, false, ◌==◌, cond, nat_lt, nat_le, List, [], ◌∷◌, ◌++◌, append_assoc, append-nil, length, take, drop, inl, inr, Option}
use Rattle.std.proofs.Common.{Some, None, refl, sym, ◌∙◌, ap, subst, arith, ne_eqb, eq-eqb}
use Rattle.std.proofs.Math.Seq.{take-add}
use Rattle.std.proofs.lemmas.List.{drop-drop, length-drop, length-take-le, take-append-drop}
use Rattle.std.proofs.lemmas.List.Elements.{All-head, All-tail}
use Rattle.std.proofs.lemmas.Bool.{leb-true, leb-false, le-ltb, lt-ltb, ltb-true}
use Rattle.std.proofs.lemmas.Bool.Decides.{nat_tests, eqb_tells}
use Rattle.run_model.specs.declared.bucket.Content.{Content}
use Rattle.run_model.specs.declared.bucket.Content.TheVariants as content
use Rattle.run_model.specs.declared.bucket.Kind.{Kind}
use Rattle.run_model.specs.declared.bucket.Kind.TheVariants as kind
use Rattle.run_model.specs.declared.bucket.Bucket.{Bucket}
use Rattle.run_model.specs.declared.bucket.NamedBucket.{NamedBucket}
use Rattle.run_model.specs.Buckets.{is_data_kind, is_data}
use Rattle.run_model.specs.Cutting.{FitsKind, form_of, form_of_kind, length_of, front_of, rest_of}
use Rattle.run_model.specs.Sound.{count_named}
use Rattle.run_model.specs.BrigadeLists.{buckets_before, buckets_from, first_bucket, stays, moves, SplitRefusal, Metadata, TooLong, split_refusal, first_bytes, rest_as, first_split, bucket_split}
use Rattle.run_model.specs.BrigadeLists.{length_in, bytes_of, all_bytes, Cut, Incomplete, front_to, back_from, bucket_across, is_short, place_before, partitioned, place_of}
use Rattle.model_laws.specs.BrigadeLaws.{BrigadeSplitsInOrder, MovesKeepNames, SplitBytes, BucketSplitsInOrder, SameBytes, may_split, SplitKeepsBytes, PartedAt, PartsAtPoint, ShortIsIncomplete}
use Rattle.model_laws.specs.BrigadeLaws.{PartitionKeepsBytes, UnsplitIsUnchanged, MetadataIsNotSplit, PlaceIsBehindFront, PartitionRows, BrigadeSplitRows, BucketSplitRows, MoveRows}
use Rattle.run_model.proofs.Names.{count_append, count_cons}

-- Splits of a brigade.

pub before_and_from : (n : ℕ) (bs : List NamedBucket) → buckets_before n bs ++ buckets_from n bs ≡ bs
unfolding buckets_before buckets_from
before_and_from n [] = refl
before_and_from n (b ∷ bs) = by_name (b.name == n) (before_and_from n bs) where
  by_name : (c : Bool) → buckets_before n bs ++ buckets_from n bs ≡ bs → cond c [] (b ∷ buckets_before n bs) ++ cond c (b ∷ bs) (buckets_from n bs) ≡ b ∷ bs
  by_name true rest = refl
  by_name false rest = ap (λ (xs : List NamedBucket). b ∷ xs) rest

pub brigade_splits_in_order : BrigadeSplitsInOrder
brigade_splits_in_order None bs = append-nil bs
brigade_splits_in_order (Some n) bs = before_and_from n bs

-- Buckets that are put in and taken out.

put_in : (b : NamedBucket) (xs ys : List NamedBucket) (n : ℕ) → count_named n (xs ++ b ∷ ys) ≡ count_named n (b ∷ xs ++ ys)
put_in b xs ys n = omega (arith, count_append n xs (b ∷ ys), count_cons n b ys, count_cons n b (xs ++ ys), count_append n xs ys)

taken_from : (b : NamedBucket) (xs ys : List NamedBucket) (n : ℕ) → first_bucket ys ≡ Some b → count_named n (b ∷ xs ++ drop 1 ys) ≡ count_named n (xs ++ ys)
taken_from b xs [] n is = absurd (cc)
taken_from b xs (y ∷ ys) n is =
    let same : y ≡ b = cc in
    subst (λ (z : NamedBucket). count_named n (z ∷ xs ++ ys) ≡ count_named n (xs ++ y ∷ ys)) same (sym (put_in y xs ys n))

pub moves_keep_names : MovesKeepNames
moves_keep_names = record {
  tail = λ b bs n. put_in b bs [] n ∙ ap (λ (xs : List NamedBucket). count_named n (b ∷ xs)) (append-nil bs);
  before = λ at b bs n. put_in b (buckets_before at bs) (buckets_from at bs) n ∙ ap (λ (xs : List NamedBucket). count_named n (b ∷ xs)) (before_and_from at bs);
  taken = λ at b bs n is. taken_from b (buckets_before at bs) (buckets_from at bs) n is ∙ ap (count_named n) (before_and_from at bs);
}

-- Splits of a bucket.

range_parts : (n start len : ℕ) (file : List ℕ) → n ≤ len → take n (drop start file) ++ take (len - n) (drop (start + n) file) ≡ take len (drop start file)
range_parts n start len file le =
    let all : n + (len - n) ≡ len = omega arith in
    ap (λ (d : List ℕ). take n (drop start file) ++ take (len - n) d) (sym (drop-drop n start file))
    ∙ (sym (take-add n (len - n) (drop start file)) ∙ ap (λ (k : ℕ). take k (drop start file)) all)

halves : (n : ℕ) (c : Content) → n ≤ length_of c → SplitBytes n c (front_of n c) (rest_of n c)
halves n (content.Bytes bs) le = record {
  first = length-take-le n bs le;
  others = omega (arith, length-drop n bs);
  bytes = λ file. take-append-drop n bs;
}
halves n (content.Range f start len) le = record {
  first = refl;
  others = omega arith;
  bytes = λ file. range_parts n start len (file f) le;
}
halves n content.Nothing le = record {
  first = omega arith;
  others = omega arith;
  bytes = λ file. refl;
}

reaches : (n : ℕ) (b : NamedBucket) → split_refusal n b ≡ None → n ≤ length_of b.bucket.content
reaches n b may = by_tests (is_data b) (nat_lt (length_of b.bucket.content) n) refl may where
  long_enough : (k : ℕ) → nat_lt k n ≡ false → n ≤ k
  long_enough k is = grind (arith, nat_tests)

  refused : (r : SplitRefusal) → ◌≡◌ {A = Option SplitRefusal} (Some r) None → ⊥
  refused r is = cc

  by_tests : (d t : Bool) → nat_lt (length_of b.bucket.content) n ≡ t → cond d (cond t (Some TooLong) None) (Some Metadata) ≡ None → n ≤ length_of b.bucket.content
  by_tests true false is may = long_enough (length_of b.bucket.content) is
  by_tests true true is may = absurd (refused TooLong may)
  by_tests false t is may = absurd (refused Metadata may)

pub bucket_splits_in_order : BucketSplitsInOrder
bucket_splits_in_order n b may = halves n b.bucket.content (reaches n b may)

-- Bytes and names.

pub bytes_append : (file : ℕ → List ℕ) (xs ys : List NamedBucket) → all_bytes file (xs ++ ys) ≡ all_bytes file xs ++ all_bytes file ys
unfolding all_bytes
bytes_append file [] ys = refl
bytes_append file (x ∷ xs) ys =
    ap (λ (bs : List ℕ). bytes_of file x.bucket.content ++ bs) (bytes_append file xs ys) ∙ sym (append_assoc (bytes_of file x.bucket.content) (all_bytes file xs) (all_bytes file ys))

same_itself : (new : ℕ) (bs : List NamedBucket) → SameBytes new bs bs
same_itself new bs = record { bytes = λ file. refl; others = λ n ne. refl; one = omega arith }

-- behind the same buckets
same_behind : (new : ℕ) (xs old left : List NamedBucket) → SameBytes new old left → SameBytes new (xs ++ old) (xs ++ left)
same_behind new xs old left s = record {
  bytes = λ file. bytes_append file xs left ∙ (ap (λ (bs : List ℕ). all_bytes file xs ++ bs) (s.bytes file) ∙ sym (bytes_append file xs old));
  others = λ n ne. omega (arith, count_append n xs left, count_append n xs old, s.others n ne);
  one = omega (arith, count_append new xs left, count_append new xs old, s.one);
}

-- the first bucket in two
same_in_two : (new n : ℕ) (b : NamedBucket) (bs : List NamedBucket) → n ≤ length_of b.bucket.content → SameBytes new (b ∷ bs) (first_bytes n b ∷ rest_as new n b ∷ bs)
unfolding all_bytes
same_in_two new n b bs le = record {
  bytes = λ file. sym (append_assoc (bytes_of file (front_of n b.bucket.content)) (bytes_of file (rest_of n b.bucket.content)) (all_bytes file bs))
      ∙ ap (λ (w : List ℕ). w ++ all_bytes file bs) ((halves n b.bucket.content le).bytes file);
  others = λ m ne. (let other : ◌≡◌ {A = ℕ} (cond (new == m) 1 0) 0 = ap (λ c. cond c 1 0) (ne_eqb new m (λ e. ne (sym e))) in
      omega (arith, other, count_cons m (first_bytes n b) (rest_as new n b ∷ bs), count_cons m (rest_as new n b) bs, count_cons m b bs));
  one = (let itself : ◌≡◌ {A = ℕ} (cond (new == new) 1 0) 1 = ap (λ c. cond c 1 0) (eq-eqb new new refl) in
      omega (arith, itself, count_cons new (first_bytes n b) (rest_as new n b ∷ bs), count_cons new (rest_as new n b) bs, count_cons new b bs));
}

pub split_keeps_bytes : SplitKeepsBytes
split_keeps_bytes new at n bs may =
    subst (λ (old : List NamedBucket). SameBytes new old (bucket_split new at n bs)) (before_and_from at bs)
    (same_behind new (buckets_before at bs) (buckets_from at bs) (first_split new n (buckets_from at bs)) (of_first (buckets_from at bs) may)) where
      of_first : (xs : List NamedBucket) → may_split n (first_bucket xs) → SameBytes new xs (first_split new n xs)
      of_first [] may = same_itself new []
      of_first (b ∷ xs) may = same_in_two new n b xs (reaches n b may)

-- the two parts of a partition
same_in_parts : (new point : ℕ) (bs : List NamedBucket) → SameBytes new bs (front_to point bs ++ back_from new point bs)
unfolding front_to back_from
same_in_parts new zero bs = same_itself new bs
same_in_parts new (suc p) [] = same_itself new []
same_in_parts new (suc p) (b ∷ bs) = by_length (nat_le (length_of b.bucket.content) (suc p)) refl (same_in_parts new (suc p - length_of b.bucket.content) bs) where
  by_length : (c : Bool) → nat_le (length_of b.bucket.content) (suc p) ≡ c
      → SameBytes new bs (front_to (suc p - length_of b.bucket.content) bs ++ back_from new (suc p - length_of b.bucket.content) bs)
      → SameBytes new (b ∷ bs)
      (cond c (b ∷ front_to (suc p - length_of b.bucket.content) bs) (first_bytes (suc p) b ∷ []) ++ cond c (back_from new (suc p - length_of b.bucket.content) bs) (rest_as new (suc p) b ∷ bs))
  by_length true is rest = same_behind new (b ∷ []) bs (front_to (suc p - length_of b.bucket.content) bs ++ back_from new (suc p - length_of b.bucket.content) bs) rest
  by_length false is rest =
      let inside : suc p < length_of b.bucket.content = leb-false (length_of b.bucket.content) (suc p) is in
      same_in_two new (suc p) b bs (omega arith)

pub partition_keeps_bytes : PartitionKeepsBytes
partition_keeps_bytes new point bs = by_test (is_short point bs) where
  by_test : (c : Bool) → SameBytes new bs (cond c bs (front_to point bs ++ back_from new point bs))
  by_test true = same_itself new bs
  by_test false = same_in_parts new point bs

-- The front of a partition.

adds_up : (point : ℕ) (bs : List NamedBucket) → point ≤ length_in bs → length_in (front_to point bs) ≡ point
unfolding length_in front_to
adds_up zero bs le = refl
adds_up (suc p) [] le = absurd (omega arith)
adds_up (suc p) (b ∷ bs) le = by_length (nat_le (length_of b.bucket.content) (suc p)) refl (adds_up (suc p - length_of b.bucket.content) bs) where
  by_length : (c : Bool) → nat_le (length_of b.bucket.content) (suc p) ≡ c
      → (suc p - length_of b.bucket.content ≤ length_in bs → length_in (front_to (suc p - length_of b.bucket.content) bs) ≡ suc p - length_of b.bucket.content)
      → length_in (cond c (b ∷ front_to (suc p - length_of b.bucket.content) bs) (first_bytes (suc p) b ∷ [])) ≡ suc p
  by_length true is rest =
      let fits : length_of b.bucket.content ≤ suc p = leb-true (length_of b.bucket.content) (suc p) is in
      omega (arith, rest (omega arith))
  by_length false is rest =
      let inside : suc p < length_of b.bucket.content = leb-false (length_of b.bucket.content) (suc p) is in
      let first : length_of (front_of (suc p) b.bucket.content) ≡ suc p = (halves (suc p) b.bucket.content (omega arith)).first in
      omega arith

shortest : (point : ℕ) (bs : List NamedBucket) (k : ℕ) → k < length (front_to point bs) → length_in (take k (front_to point bs)) < point
unfolding length_in front_to
shortest zero bs k lt = absurd (omega arith)
shortest (suc p) [] k lt = absurd (omega arith)
shortest (suc p) (b ∷ bs) k lt = by_length (nat_le (length_of b.bucket.content) (suc p)) refl (shortest (suc p - length_of b.bucket.content) bs) k lt where
  by_length : (c : Bool) → nat_le (length_of b.bucket.content) (suc p) ≡ c
      → ((k : ℕ) → k < length (front_to (suc p - length_of b.bucket.content) bs) → length_in (take k (front_to (suc p - length_of b.bucket.content) bs)) < suc p - length_of b.bucket.content)
      → (k : ℕ) → k < length (cond c (b ∷ front_to (suc p - length_of b.bucket.content) bs) (first_bytes (suc p) b ∷ []))
      → length_in (take k (cond c (b ∷ front_to (suc p - length_of b.bucket.content) bs) (first_bytes (suc p) b ∷ []))) < suc p
  by_length true is rest zero lt = omega arith
  by_length true is rest (suc k) lt = omega (arith, rest k (omega arith))
  by_length false is rest zero lt = omega arith
  by_length false is rest (suc k) lt = absurd (omega arith)

pub parts_at_point : PartsAtPoint
parts_at_point new point bs le = record {
  whole = ap (λ (c : Bool). cond c bs (front_to point bs ++ back_from new point bs)) (le-ltb (length_in bs) point le);
  answer = ap (λ (c : Bool). cond c Incomplete (place_before (back_from new point bs))) (le-ltb (length_in bs) point le);
  adds_up = adds_up point bs le;
  shortest = shortest point bs;
}

pub short_is_incomplete : ShortIsIncomplete
short_is_incomplete new point bs = record {
  told = λ lt. ap (λ (c : Bool). cond c Incomplete (place_before (back_from new point bs))) (lt-ltb (length_in bs) point lt);
  only = λ is. only (is_short point bs) refl is;
  unchanged = λ is. ap (λ (c : Bool). cond c bs (front_to point bs ++ back_from new point bs)) (lt-ltb (length_in bs) point (only (is_short point bs) refl is));
} where
  is_a_place : (xs : List NamedBucket) → place_before xs ≡ Incomplete → ⊥
  is_a_place [] is = cc
  is_a_place (x ∷ xs) is = cc

  only : (c : Bool) → nat_lt (length_in bs) point ≡ c → cond c Incomplete (place_before (back_from new point bs)) ≡ Incomplete → length_in bs < point
  only true tells is = ltb-true (length_in bs) point tells
  only false tells is = absurd (is_a_place (back_from new point bs) is)

-- The bucket that is split.

unsplit : (new point : ℕ) (bs : List NamedBucket) → bucket_across point bs ≡ None → front_to point bs ++ back_from new point bs ≡ bs
unfolding front_to back_from bucket_across
unsplit new zero bs none = refl
unsplit new (suc p) [] none = refl
unsplit new (suc p) (b ∷ bs) none = by_length (nat_le (length_of b.bucket.content) (suc p)) (unsplit new (suc p - length_of b.bucket.content) bs) none where
  by_length : (c : Bool)
      → (bucket_across (suc p - length_of b.bucket.content) bs ≡ None → front_to (suc p - length_of b.bucket.content) bs ++ back_from new (suc p - length_of b.bucket.content) bs ≡ bs)
      → cond c (bucket_across (suc p - length_of b.bucket.content) bs) (Some b) ≡ None
      → cond c (b ∷ front_to (suc p - length_of b.bucket.content) bs) (first_bytes (suc p) b ∷ []) ++ cond c (back_from new (suc p - length_of b.bucket.content) bs)
      (rest_as new (suc p) b ∷ bs) ≡ b ∷ bs
  by_length true rest none = ap (λ (xs : List NamedBucket). b ∷ xs) (rest none)
  by_length false rest none = absurd (cc)

pub unsplit_is_unchanged : UnsplitIsUnchanged
unsplit_is_unchanged new point bs none = by_test (is_short point bs) where
  by_test : (c : Bool) → cond c bs (front_to point bs ++ back_from new point bs) ≡ bs
  by_test true = refl
  by_test false = unsplit new point bs none

-- a bucket that has bytes is data
pub bytes_are_data : (p : ℕ) (b : Bucket) → FitsKind b → p < length_of b.content → is_data_kind b.kind ≡ true
bytes_are_data p b fits more = of_kind b.kind b.content fits.holds more where
  of_kind : (k : Kind) (c : Content) → form_of c ≡ form_of_kind k → p < length_of c → is_data_kind k ≡ true
  of_kind kind.Flush (content.Bytes bs) holds more = absurd (cc)
  of_kind kind.Flush (content.Range f start len) holds more = absurd (cc)
  of_kind kind.Flush content.Nothing holds more = absurd (omega arith)
  of_kind kind.Eos (content.Bytes bs) holds more = absurd (cc)
  of_kind kind.Eos (content.Range f start len) holds more = absurd (cc)
  of_kind kind.Eos content.Nothing holds more = absurd (omega arith)
  of_kind k c holds more = refl

pub metadata_is_not_split : MetadataIsNotSplit
unfolding bucket_across
metadata_is_not_split zero bs b fits is = absurd (cc)
metadata_is_not_split (suc p) [] b fits is = absurd (cc)
metadata_is_not_split (suc p) (x ∷ bs) b fits is = by_length (nat_le (length_of x.bucket.content) (suc p)) refl
    (metadata_is_not_split (suc p - length_of x.bucket.content) bs b (All-tail (λ (y : NamedBucket). FitsKind y.bucket) x bs fits)) is where
      by_length : (c : Bool) → nat_le (length_of x.bucket.content) (suc p) ≡ c → (bucket_across (suc p - length_of x.bucket.content) bs ≡ Some b → is_data b ≡ true)
          → cond c (bucket_across (suc p - length_of x.bucket.content) bs) (Some x) ≡ Some b → is_data b ≡ true
      by_length true tells rest is = rest is
      by_length false tells rest is =
          let same : x ≡ b = cc in
          subst (λ (y : NamedBucket). is_data y ≡ true) same
          (bytes_are_data (suc p) x.bucket (All-head (λ (y : NamedBucket). FitsKind y.bucket) x bs fits) (leb-false (length_of x.bucket.content) (suc p) tells))

-- The place of a partition.

-- a bucket whose name does not stand before it is found where it stands
pub at_seam : (xs : List NamedBucket) (y : NamedBucket) (ys : List NamedBucket) → count_named y.name xs ≡ 0 → (buckets_before y.name (xs ++ y ∷ ys) ≡ xs)
    × (buckets_from y.name (xs ++ y ∷ ys) ≡ y ∷ ys)
unfolding buckets_before buckets_from
at_seam [] y ys none = (
  ap (λ (c : Bool). cond c [] (y ∷ buckets_before y.name ys)) (eq-eqb y.name y.name refl),
  ap (λ (c : Bool). cond c (y ∷ ys) (buckets_from y.name ys)) (eq-eqb y.name y.name refl),
)
at_seam (x ∷ xs) y ys none = by_name (x.name == y.name) (sym (count_cons y.name x xs) ∙ none) (at_seam xs y ys) where
  by_name : (c : Bool) → cond c 1 0 + count_named y.name xs ≡ 0
      → (count_named y.name xs ≡ 0 → (buckets_before y.name (xs ++ y ∷ ys) ≡ xs) × (buckets_from y.name (xs ++ y ∷ ys) ≡ y ∷ ys))
      → (cond c [] (x ∷ buckets_before y.name (xs ++ y ∷ ys)) ≡ x ∷ xs) × (cond c (x ∷ xs ++ y ∷ ys) (buckets_from y.name (xs ++ y ∷ ys)) ≡ y ∷ ys)
  by_name true sum rest = absurd (omega arith)
  by_name false sum rest =
      let found : (buckets_before y.name (xs ++ y ∷ ys) ≡ xs) × (buckets_from y.name (xs ++ y ∷ ys) ≡ y ∷ ys) = rest (omega arith) in
      (ap (λ (zs : List NamedBucket). x ∷ zs) found.0, found.1)

-- the place before what stands behind a front, where each name is one bucket's
splits_before : (front back : List NamedBucket) → ((n : ℕ) → count_named n (front ++ back) ≤ 1)
    → (stays (place_of (place_before back)) (front ++ back) ≡ front) × (moves (place_of (place_before back)) (front ++ back) ≡ back)
splits_before front [] once = (append-nil front, refl)
splits_before front (y ∷ ys) once =
    let itself : ◌≡◌ {A = ℕ} (cond (y.name == y.name) 1 0) 1 = ap (λ c. cond c 1 0) (eq-eqb y.name y.name refl) in
    at_seam front y ys (omega (arith, itself, once y.name, count_append y.name front (y ∷ ys), count_cons y.name y ys))

pub place_is_behind_front : PlaceIsBehindFront
place_is_behind_front new point bs le once fresh =
    let parted : PartedAt new point bs = parts_at_point new point bs le in
    let found : (stays (place_of (place_before (back_from new point bs))) (front_to point bs ++ back_from new point bs) ≡ front_to point bs)
    × (moves (place_of (place_before (back_from new point bs))) (front_to point bs ++ back_from new point bs) ≡ back_from new point bs)
    = splits_before (front_to point bs) (back_from new point bs) each_once in
    record {
      front = ap (λ (c : Cut). stays (place_of c) (partitioned new point bs)) parted.answer ∙ (ap (stays (place_of (place_before (back_from new point bs)))) parted.whole ∙ found.0);
      back = ap (λ (c : Cut). moves (place_of c) (partitioned new point bs)) parted.answer ∙ (ap (moves (place_of (place_before (back_from new point bs)))) parted.whole ∙ found.1);
    } where
      same : SameBytes new bs (front_to point bs ++ back_from new point bs)
      same = same_in_parts new point bs

      each_once : (n : ℕ) → count_named n (front_to point bs ++ back_from new point bs) ≤ 1
      each_once n = elim (eqb_tells n new) [
        | inl p ↦ subst (λ (k : ℕ). count_named k (front_to point bs ++ back_from new point bs) ≤ 1) (sym p.1) (omega (arith, same.one, fresh))
        | inr p ↦ omega (arith, same.others n p.1, once n)
      ]

-- Worked rows.

pub partition_rows : PartitionRows
unfolding length_in front_to back_from bucket_across
partition_rows = record { first = refl; inside = refl; across = refl; across_none = refl; left = refl; between = refl; short = refl; whole = refl; empty = refl; empty_short = refl }

pub brigade_split_rows : BrigadeSplitRows
unfolding buckets_before buckets_from
brigade_split_rows = record { stays_before = refl; moves_from = refl; all_stay = refl; none_moves = refl }

pub bucket_split_rows : BucketSplitRows
unfolding buckets_before buckets_from
bucket_split_rows = search

pub move_rows : MoveRows
unfolding buckets_before buckets_from
move_rows = record { first = refl; first_of_none = refl; next = refl; end = refl; there = refl; not_there = refl; found = refl; taken = refl; head = refl; tail = refl; before = refl }
