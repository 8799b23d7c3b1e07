-- The laws on brigades as lists, as statements, and worked rows.
use Rattle.std.specs.Prelude.{◌≡◌, ◌≢◌, ℕ, ◌+◌, ◌<◌, ◌≤◌, true, false, List, [], ◌∷◌, ◌++◌, length, take, Option, Some, None, All}
use Rattle.run_model.specs.declared.bucket.Kind.TheVariants as kind
use Rattle.run_model.specs.declared.bucket.Content.{Content}
use Rattle.run_model.specs.declared.bucket.Content.TheVariants as content
use Rattle.run_model.specs.declared.bucket.Home.TheVariants as home
use Rattle.run_model.specs.declared.bucket.NamedBucket.{NamedBucket}
use Rattle.run_model.specs.Buckets.{is_data}
use Rattle.run_model.specs.Cutting.{FitsKind, length_of, split_at}
use Rattle.run_model.specs.Sound.{count_named}
use Rattle.run_model.specs.BrigadeLists.{is_there, bucket_named, first_place, next_place, taken_out, put_head, put_tail, put_before, copied, stays, moves, split_refusal, bucket_split, length_in}
use Rattle.run_model.specs.BrigadeLists.{bytes_of, all_bytes, front_to, back_from, bucket_across, place_before, partition_answer, partitioned, place_of, Metadata, TooLong, Found, AtEnd, Incomplete}

-- What stays and what moves are the whole, in order.
abbrev pub BrigadeSplitsInOrder : Type 0
BrigadeSplitsInOrder = (at : Option ℕ) (bs : List NamedBucket) → stays at bs ++ moves at bs ≡ bs

-- A bucket that is put in comes to the names that were there, and one that is taken out goes from them.
pub record MovesKeepNames : Type 0 where
  pub tail : (b : NamedBucket) (bs : List NamedBucket) (n : ℕ) → count_named n (put_tail b bs) ≡ count_named n (b ∷ bs)
  pub before : (at : ℕ) (b : NamedBucket) (bs : List NamedBucket) (n : ℕ) → count_named n (put_before at b bs) ≡ count_named n (b ∷ bs)
  pub taken : (at : ℕ) (b : NamedBucket) (bs : List NamedBucket) (n : ℕ) → bucket_named at bs ≡ Some b → count_named n (b ∷ taken_out at bs) ≡ count_named n bs

-- A bucket that is not too short is split into its first n bytes and the others, in order.
pub record SplitBytes (n : ℕ) (c : Content) (front rest : Content) : Type 0 where
  pub first : length_of front ≡ n
  pub others : n + length_of rest ≡ length_of c
  pub bytes : (file : ℕ → List ℕ) → bytes_of file front ++ bytes_of file rest ≡ bytes_of file c

abbrev pub BucketSplitsInOrder : Type 0
BucketSplitsInOrder = (n : ℕ) (b : NamedBucket) → split_refusal n b ≡ None → SplitBytes n b.bucket.content (split_at n b.bucket).0.content (split_at n b.bucket).1.content

-- The same list of bytes, all other names as often as before, the new one at most once more.
pub record SameBytes (new : ℕ) (old left : List NamedBucket) : Type 0 where
  pub bytes : (file : ℕ → List ℕ) → all_bytes file left ≡ all_bytes file old
  pub others : (n : ℕ) → n ≢ new → count_named n left ≡ count_named n old
  pub one : count_named new left ≤ count_named new old + 1

abbrev pub may_split : ℕ → Option NamedBucket → Type 0
may_split n None = Unit {0}
may_split n (Some b) = split_refusal n b ≡ None

abbrev pub SplitKeepsBytes : Type 0
SplitKeepsBytes = (new at n : ℕ) (bs : List NamedBucket) → may_split n (bucket_named at bs) → SameBytes new bs (bucket_split new at n bs)

-- Of a brigade that is not shorter than the point, the front has lengths that add up to it, and no shorter front has.
-- It stands before the place that is answered.
pub record PartedAt (new point : ℕ) (bs : List NamedBucket) : Type 0 where
  pub whole : partitioned new point bs ≡ front_to point bs ++ back_from new point bs
  pub answer : partition_answer new point bs ≡ place_before (back_from new point bs)
  pub adds_up : length_in (front_to point bs) ≡ point
  pub shortest : (k : ℕ) → k < length (front_to point bs) → length_in (take k (front_to point bs)) < point

abbrev pub PartsAtPoint : Type 0
PartsAtPoint = (new point : ℕ) (bs : List NamedBucket) → point ≤ length_in bs → PartedAt new point bs

-- Incomplete is told exactly of a brigade that is shorter, and then nothing changes.
pub record IncompleteWhereShort (new point : ℕ) (bs : List NamedBucket) : Type 0 where
  pub told : length_in bs < point → partition_answer new point bs ≡ Incomplete
  pub only : partition_answer new point bs ≡ Incomplete → length_in bs < point
  pub unchanged : partition_answer new point bs ≡ Incomplete → partitioned new point bs ≡ bs

abbrev pub ShortIsIncomplete : Type 0
ShortIsIncomplete = (new point : ℕ) (bs : List NamedBucket) → IncompleteWhereShort new point bs

abbrev pub PartitionKeepsBytes : Type 0
PartitionKeepsBytes = (new point : ℕ) (bs : List NamedBucket) → SameBytes new bs (partitioned new point bs)

-- Where the point lies inside no bucket, nothing changes, and no name is needed. What is split is data, where each
-- bucket's content fits its kind.
abbrev pub UnsplitIsUnchanged : Type 0
UnsplitIsUnchanged = (new point : ℕ) (bs : List NamedBucket) → bucket_across point bs ≡ None → partitioned new point bs ≡ bs

abbrev pub MetadataIsNotSplit : Type 0
MetadataIsNotSplit = (point : ℕ) (bs : List NamedBucket) (b : NamedBucket) → All (λ (x : NamedBucket). FitsKind x.bucket) bs → bucket_across point bs ≡ Some b → is_data b ≡ true

-- Where each name is one bucket's and the new name is none's, a split at the place that is answered gives that front.
pub record SplitsThere (new point : ℕ) (bs : List NamedBucket) : Type 0 where
  pub front : stays (place_of (partition_answer new point bs)) (partitioned new point bs) ≡ front_to point bs
  pub back : moves (place_of (partition_answer new point bs)) (partitioned new point bs) ≡ back_from new point bs

abbrev pub PlaceIsBehindFront : Type 0
PlaceIsBehindFront = (new point : ℕ) (bs : List NamedBucket) → point ≤ length_in bs → ((n : ℕ) → count_named n bs ≤ 1) → count_named new bs ≡ 0 → SplitsThere new point bs

-- Worked rows.

-- bytes that depend on nothing, the end of the stream, a range of a file, bytes in a pool
abbrev pub heap : ℕ → List ℕ → NamedBucket
heap n bytes = record { name = n; bucket = record { kind = kind.Heap; content = content.Bytes bytes; home = home.Free } }

abbrev pub eos : ℕ → NamedBucket
eos n = record { name = n; bucket = record { kind = kind.Eos; content = content.Nothing; home = home.Free } }

abbrev pub range : ℕ → ℕ → ℕ → NamedBucket
range n start len = record { name = n; bucket = record { kind = kind.File; content = content.Range 1 start len; home = home.Pool 2 } }

abbrev pub pooled : ℕ → List ℕ → NamedBucket
pooled n bytes = record { name = n; bucket = record { kind = kind.Pool 2; content = content.Bytes bytes; home = home.Free } }

-- The brigade of the bytes 97 98 and an EOS is parted at 0 to 3; that of the bytes alone at 2; the empty one at 0 and 1.
pub record PartitionRows : Type 0 where
  pub first : partition_answer 9 0 (heap 1 (97 ∷ 98 ∷ []) ∷ eos 2 ∷ []) ≡ Found 1
  pub inside : partition_answer 9 1 (heap 1 (97 ∷ 98 ∷ []) ∷ eos 2 ∷ []) ≡ Found 9
  pub across : bucket_across 1 (heap 1 (97 ∷ 98 ∷ []) ∷ eos 2 ∷ []) ≡ Some (heap 1 (97 ∷ 98 ∷ []))
  pub across_none : bucket_across 2 (heap 1 (97 ∷ 98 ∷ []) ∷ eos 2 ∷ []) ≡ None
  pub left : partitioned 9 1 (heap 1 (97 ∷ 98 ∷ []) ∷ eos 2 ∷ []) ≡ heap 1 (97 ∷ []) ∷ heap 9 (98 ∷ []) ∷ eos 2 ∷ []
  pub between : partition_answer 9 2 (heap 1 (97 ∷ 98 ∷ []) ∷ eos 2 ∷ []) ≡ Found 2
  pub short : partition_answer 9 3 (heap 1 (97 ∷ 98 ∷ []) ∷ eos 2 ∷ []) ≡ Incomplete
  pub whole : partition_answer 9 2 (heap 1 (97 ∷ 98 ∷ []) ∷ []) ≡ AtEnd
  pub empty : partition_answer 9 0 [] ≡ AtEnd
  pub empty_short : partition_answer 9 1 [] ≡ Incomplete

-- Brigades of three buckets are split at the second and at the end.
pub record BrigadeSplitRows : Type 0 where
  pub stays_before : stays (Some 2) (eos 1 ∷ eos 2 ∷ eos 3 ∷ []) ≡ eos 1 ∷ []
  pub moves_from : moves (Some 2) (eos 1 ∷ eos 2 ∷ eos 3 ∷ []) ≡ eos 2 ∷ eos 3 ∷ []
  pub all_stay : stays None (eos 1 ∷ eos 2 ∷ eos 3 ∷ []) ≡ eos 1 ∷ eos 2 ∷ eos 3 ∷ []
  pub none_moves : moves None (eos 1 ∷ eos 2 ∷ eos 3 ∷ []) ≡ []

-- Buckets are split and copied.
pub record BucketSplitRows : Type 0 where
  pub at_start : bucket_split 9 1 0 (heap 1 (97 ∷ 98 ∷ []) ∷ []) ≡ heap 1 [] ∷ heap 9 (97 ∷ 98 ∷ []) ∷ []
  pub inside : bucket_split 9 1 1 (heap 1 (97 ∷ 98 ∷ []) ∷ []) ≡ heap 1 (97 ∷ []) ∷ heap 9 (98 ∷ []) ∷ []
  pub at_end : bucket_split 9 1 2 (heap 1 (97 ∷ 98 ∷ []) ∷ []) ≡ heap 1 (97 ∷ 98 ∷ []) ∷ heap 9 [] ∷ []
  pub at_end_taken : split_refusal 2 (heap 1 (97 ∷ 98 ∷ [])) ≡ None
  pub too_long : split_refusal 3 (heap 1 (97 ∷ 98 ∷ [])) ≡ Some TooLong
  pub metadata_at_start : split_refusal 0 (eos 1) ≡ Some Metadata
  pub metadata : split_refusal 1 (eos 1) ≡ Some Metadata
  pub range_inside : bucket_split 9 1 4 (range 1 5 10 ∷ []) ≡ range 1 5 4 ∷ range 9 9 6 ∷ []
  pub pool_copy : copied 9 (pooled 1 (97 ∷ 98 ∷ [])) ≡ pooled 9 (97 ∷ 98 ∷ [])
  pub eos_copy : copied 9 (eos 1) ≡ eos 9

-- Buckets are found, taken out and put in.
pub record MoveRows : Type 0 where
  pub first : first_place (eos 1 ∷ eos 2 ∷ []) ≡ Some 1
  pub first_of_none : first_place [] ≡ None
  pub next : next_place 1 (eos 1 ∷ eos 2 ∷ []) ≡ Some 2
  pub end : next_place 2 (eos 1 ∷ eos 2 ∷ []) ≡ None
  pub there : is_there 2 (eos 1 ∷ eos 2 ∷ []) ≡ true
  pub not_there : is_there 3 (eos 1 ∷ eos 2 ∷ []) ≡ false
  pub found : bucket_named 2 (eos 1 ∷ eos 2 ∷ []) ≡ Some (eos 2)
  pub taken : taken_out 2 (eos 1 ∷ eos 2 ∷ eos 3 ∷ []) ≡ eos 1 ∷ eos 3 ∷ []
  pub head : put_head (eos 9) (eos 1 ∷ eos 2 ∷ []) ≡ eos 9 ∷ eos 1 ∷ eos 2 ∷ []
  pub tail : put_tail (eos 9) (eos 1 ∷ eos 2 ∷ []) ≡ eos 1 ∷ eos 2 ∷ eos 9 ∷ []
  pub before : put_before 2 (eos 9) (eos 1 ∷ eos 2 ∷ []) ≡ eos 1 ∷ eos 9 ∷ eos 2 ∷ []
