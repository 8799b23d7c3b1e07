-- One bucket: whether its content and home fit its kind, and what becomes of it where it is cut, set aside or
-- read (apr_buckets.h: apr_bucket_split, apr_bucket_setaside, apr_bucket_read).
use Rattle.std.specs.Prelude.{ℕ, ◌≡◌, ◌<◌, ◌+◌, ◌-◌, ◌^◌, Bool, if◌then◌else◌, nat_le, min, List, length, take, drop, Option, Some, None}
use Rattle.run_model.specs.declared.bucket.Kind.{Kind}
use Rattle.run_model.specs.declared.bucket.Kind.TheVariants as kind
use Rattle.run_model.specs.declared.bucket.Content.{Content}
use Rattle.run_model.specs.declared.bucket.Content.TheVariants as content
use Rattle.run_model.specs.declared.bucket.Home.{Home}
use Rattle.run_model.specs.declared.bucket.Home.TheVariants as home
use Rattle.run_model.specs.declared.bucket.Bucket.{Bucket}

-- where the bytes of a bucket are
pub data BytesIn : Type 0 where
  Memory : BytesIn
  OpenFile : BytesIn
  Nowhere : BytesIn

abbrev pub form_of : Content → BytesIn
form_of (content.Bytes bs) = Memory
form_of (content.Range file start len) = OpenFile
form_of content.Nothing = Nowhere

abbrev pub form_of_kind : Kind → BytesIn
form_of_kind kind.Heap = Memory
form_of_kind kind.Transient = Memory
form_of_kind kind.Immortal = Memory
form_of_kind (kind.Pool p) = Memory
form_of_kind kind.File = OpenFile
form_of_kind kind.Flush = Nowhere
form_of_kind kind.Eos = Nowhere

-- A range ends below 2 ^ 64.
abbrev pub EndsInFile : Content → Type 0
EndsInFile (content.Bytes bs) = Unit {0}
EndsInFile (content.Range file start len) = start + len < 2 ^ 64
EndsInFile content.Nothing = Unit {0}

abbrev pub IsFree : Home → Type 0
IsFree home.Free = Unit {0}
IsFree (home.Call n) = ⊥
IsFree (home.Pool n) = ⊥
IsFree home.Ended = ⊥

abbrev pub IsOfCall : Home → Type 0
IsOfCall home.Free = ⊥
IsOfCall (home.Call n) = Unit {0}
IsOfCall (home.Pool n) = ⊥
IsOfCall home.Ended = Unit {0}

abbrev pub IsOfPool : Home → Type 0
IsOfPool home.Free = ⊥
IsOfPool (home.Call n) = ⊥
IsOfPool (home.Pool n) = Unit {0}
IsOfPool home.Ended = Unit {0}

-- what a bucket of this kind lives as long as
abbrev pub LivesAs : Kind → Home → Type 0
LivesAs kind.Heap h = IsFree h
LivesAs kind.Transient h = IsOfCall h
LivesAs kind.Immortal h = IsFree h
LivesAs (kind.Pool p) h = IsFree h
LivesAs kind.File h = IsOfPool h
LivesAs kind.Flush h = IsFree h
LivesAs kind.Eos h = IsFree h

-- Content and home fit the kind.
pub record FitsKind (b : Bucket) : Type 0 where
  pub holds : form_of b.content ≡ form_of_kind b.kind
  pub lives : LivesAs b.kind b.home

-- They do, and a range ends below 2 ^ 64.
pub record IsBucket (b : Bucket) : Type 0 where
  pub fits : FitsKind b
  pub ends : EndsInFile b.content

-- how many bytes a content stands for
abbrev pub length_of : Content → ℕ
length_of (content.Bytes bs) = length bs
length_of (content.Range file start len) = len
length_of content.Nothing = 0

-- the first n bytes
abbrev pub front_of : ℕ → Content → Content
front_of n (content.Bytes bs) = content.Bytes (take n bs)
front_of n (content.Range file start len) = content.Range file start n
front_of n content.Nothing = content.Nothing

-- what stands behind the first n bytes
abbrev pub rest_of : ℕ → Content → Content
rest_of n (content.Bytes bs) = content.Bytes (drop n bs)
rest_of n (content.Range file start len) = content.Range file (start + n) (len - n)
rest_of n content.Nothing = content.Nothing

-- A split gives the first n bytes and the rest, of the same kind and home.
abbrev pub split_at : ℕ → Bucket → Bucket × Bucket
split_at n b = (record b { content = front_of n b.content }, record b { content = rest_of n b.content })

-- a bucket of these bytes, which depends on nothing
abbrev pub heap_of : Content → Bucket
heap_of c = record { kind = kind.Heap; content = c; home = home.Free }

-- Setting aside into the pool `target`; `above` says whether the home is an ancestor of it.
abbrev pub set_aside_as : ℕ → Bool → Bucket → Kind → Bucket
set_aside_as target above b kind.Heap = b
set_aside_as target above b kind.Transient = heap_of b.content
set_aside_as target above b kind.Immortal = b
set_aside_as target above b (kind.Pool p) = b
set_aside_as target above b kind.File = if above then b else record b { home = home.Pool target }
set_aside_as target above b kind.Flush = b
set_aside_as target above b kind.Eos = b

abbrev pub set_aside : ℕ → Bool → Bucket → Bucket
set_aside target above b = set_aside_as target above b b.kind

-- how many bytes a read of a FILE bucket takes from its file, at most
abbrev pub read_limit : ℕ
read_limit = 8000

-- how many bytes a read takes from the file: none of what lies in memory
abbrev pub wanted : Content → ℕ
wanted (content.Bytes bs) = 0
wanted (content.Range file start len) = min len read_limit
wanted content.Nothing = 0

-- A read, where `bytes` are those that the file gave: the bucket, and that of the rest of a longer range.
abbrev pub read_as : List ℕ → Bucket → Content → Bucket × Option Bucket
read_as bytes b (content.Bytes bs) = (b, None)
read_as bytes b (content.Range file start len) =
    (heap_of (content.Bytes bytes), if nat_le len read_limit then None else Some (record b { content = rest_of read_limit b.content }))
read_as bytes b content.Nothing = (b, None)

abbrev pub read_of : List ℕ → Bucket → Bucket × Option Bucket
read_of bytes b = read_as bytes b b.content
