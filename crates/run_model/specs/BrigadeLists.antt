-- Brigades as lists of named buckets, and what is done to them (apr_buckets.h). A place in a brigade is the name of a
-- bucket, or None for its end, which is the sentinel. To move all buckets to a tail is `++` (APR_BRIGADE_CONCAT).
use Rattle.std.specs.Prelude.{ℕ, zero, suc, ◌+◌, ◌-◌, Bool, ◌==◌, nat_lt, nat_le, if◌then◌else◌, List, [], ◌∷◌, ◌++◌, take, drop, Option, Some, None}
use Rattle.std.specs.List.{list_any}
use Rattle.run_model.specs.declared.bucket.Content.{Content}
use Rattle.run_model.specs.declared.bucket.Content.TheVariants as content
use Rattle.run_model.specs.declared.bucket.NamedBucket.{NamedBucket}
use Rattle.run_model.specs.Buckets.{is_data}
use Rattle.run_model.specs.Cutting.{length_of, split_at}

-- Buckets by their names.

abbrev pub is_there : ℕ → List NamedBucket → Bool
is_there n bs = list_any (λ b. b.name == n) bs

-- the buckets before one; all of them where it is not there
unfoldable pub buckets_before : ℕ → List NamedBucket → List NamedBucket
buckets_before n [] = []
buckets_before n (b ∷ bs) = if b.name == n then [] else b ∷ buckets_before n bs

-- a bucket and those behind it; none where it is not there
unfoldable pub buckets_from : ℕ → List NamedBucket → List NamedBucket
buckets_from n [] = []
buckets_from n (b ∷ bs) = if b.name == n then b ∷ bs else buckets_from n bs

abbrev pub first_bucket : List NamedBucket → Option NamedBucket
first_bucket [] = None
first_bucket (b ∷ bs) = Some b

abbrev pub bucket_named : ℕ → List NamedBucket → Option NamedBucket
bucket_named n bs = first_bucket (buckets_from n bs)

-- the first place (APR_BRIGADE_FIRST)
abbrev pub first_place : List NamedBucket → Option ℕ
first_place [] = None
first_place (b ∷ bs) = Some b.name

-- the place after a bucket (APR_BUCKET_NEXT)
abbrev pub next_place : ℕ → List NamedBucket → Option ℕ
next_place n bs = first_place (drop 1 (buckets_from n bs))

-- a bucket is taken out (APR_BUCKET_REMOVE)
abbrev pub taken_out : ℕ → List NamedBucket → List NamedBucket
taken_out n bs = buckets_before n bs ++ drop 1 (buckets_from n bs)

-- APR_BRIGADE_INSERT_HEAD
abbrev pub put_head : NamedBucket → List NamedBucket → List NamedBucket
put_head b bs = b ∷ bs

-- APR_BRIGADE_INSERT_TAIL
abbrev pub put_tail : NamedBucket → List NamedBucket → List NamedBucket
put_tail b bs = bs ++ b ∷ []

-- APR_BUCKET_INSERT_BEFORE, before the bucket `at`
abbrev pub put_before : ℕ → NamedBucket → List NamedBucket → List NamedBucket
put_before at b bs = buckets_before at bs ++ b ∷ buckets_from at bs

-- the same kind, content and home under a new name (apr_bucket_copy)
abbrev pub copied : ℕ → NamedBucket → NamedBucket
copied new b = record b { name = new }

-- A split of a brigade at a place (apr_brigade_split_ex): what stays, and what moves into another, which is cleaned before.

abbrev pub stays : Option ℕ → List NamedBucket → List NamedBucket
stays None bs = bs
stays (Some n) bs = buckets_before n bs

abbrev pub moves : Option ℕ → List NamedBucket → List NamedBucket
moves None bs = []
moves (Some n) bs = buckets_from n bs

-- A split of a bucket (apr_bucket_split): its first n bytes keep its name, the rest follows under a new one.

-- why a bucket is not split (APR_ENOTIMPL, APR_EINVAL)
pub data SplitRefusal : Type 0 where
  Metadata : SplitRefusal
  TooLong : SplitRefusal

-- Metadata is told before a length is looked at.
abbrev pub split_refusal : ℕ → NamedBucket → Option SplitRefusal
split_refusal n b = if is_data b then (if nat_lt (length_of b.bucket.content) n then Some TooLong else None) else Some Metadata

abbrev pub first_bytes : ℕ → NamedBucket → NamedBucket
first_bytes n b = record b { bucket = (split_at n b.bucket).0 }

abbrev pub rest_as : ℕ → ℕ → NamedBucket → NamedBucket
rest_as new n b = record { name = new; bucket = (split_at n b.bucket).1 }

abbrev pub first_split : ℕ → ℕ → List NamedBucket → List NamedBucket
first_split new n [] = []
first_split new n (b ∷ bs) = first_bytes n b ∷ rest_as new n b ∷ bs

-- the bucket `at` of a list is split
abbrev pub bucket_split : ℕ → ℕ → ℕ → List NamedBucket → List NamedBucket
bucket_split new at n bs = buckets_before at bs ++ first_split new n (buckets_from at bs)

-- Lengths and bytes.

-- how many bytes the buckets stand for (apr_brigade_length)
unfoldable pub length_in : List NamedBucket → ℕ
length_in [] = 0
length_in (b ∷ bs) = length_of b.bucket.content + length_in bs

-- the bytes of a content, where `file` tells those of each file
abbrev pub bytes_of : (ℕ → List ℕ) → Content → List ℕ
bytes_of file (content.Bytes bs) = bs
bytes_of file (content.Range n start len) = take len (drop start (file n))
bytes_of file content.Nothing = []

unfoldable pub all_bytes : (ℕ → List ℕ) → List NamedBucket → List ℕ
all_bytes file [] = []
all_bytes file (b ∷ bs) = bytes_of file b.bucket.content ++ all_bytes file bs

-- A partition at a point (apr_brigade_partition).

-- what it answers; Incomplete is APR_INCOMPLETE
pub data Cut : Type 0 where
  Found : ℕ → Cut
  AtEnd : Cut
  Incomplete : Cut

-- the shortest front whose lengths add up to the point: of a bucket that the point lies inside, the first bytes
unfoldable pub front_to : ℕ → List NamedBucket → List NamedBucket
front_to zero bs = []
front_to (suc p) [] = []
front_to (suc p) (b ∷ bs) =
    if nat_le (length_of b.bucket.content) (suc p) then b ∷ front_to (suc p - length_of b.bucket.content) bs else first_bytes (suc p) b ∷ []

-- what stands behind it: of a bucket that the point lies inside, the rest under a new name
unfoldable pub back_from : ℕ → ℕ → List NamedBucket → List NamedBucket
back_from new zero bs = bs
back_from new (suc p) [] = []
back_from new (suc p) (b ∷ bs) =
    if nat_le (length_of b.bucket.content) (suc p) then back_from new (suc p - length_of b.bucket.content) bs else rest_as new (suc p) b ∷ bs

-- the bucket that the point lies inside, which is split; none where the point lies between two
unfoldable pub bucket_across : ℕ → List NamedBucket → Option NamedBucket
bucket_across zero bs = None
bucket_across (suc p) [] = None
bucket_across (suc p) (b ∷ bs) =
    if nat_le (length_of b.bucket.content) (suc p) then bucket_across (suc p - length_of b.bucket.content) bs else Some b

-- All lengths together are less than the point.
abbrev pub is_short : ℕ → List NamedBucket → Bool
is_short point bs = nat_lt (length_in bs) point

-- the place before the first of these
abbrev pub place_before : List NamedBucket → Cut
place_before [] = AtEnd
place_before (b ∷ bs) = Found b.name

abbrev pub partition_answer : ℕ → ℕ → List NamedBucket → Cut
partition_answer new point bs = if is_short point bs then Incomplete else place_before (back_from new point bs)

-- the buckets of the brigade afterwards
abbrev pub partitioned : ℕ → ℕ → List NamedBucket → List NamedBucket
partitioned new point bs = if is_short point bs then bs else front_to point bs ++ back_from new point bs

-- the place that it finds: the end where the brigade is too short
abbrev pub place_of : Cut → Option ℕ
place_of (Found n) = Some n
place_of AtEnd = None
place_of Incomplete = None
