-- What the end of the chain takes of a brigade, and what the device gives to its reads.
use Rattle.std.specs.Prelude.{◌≡◌, ◌⊎◌, ℕ, zero, suc, ◌+◌, ◌-◌, Bool, true, false, min, List, [], ◌∷◌, ◌++◌, length, take, Option, Some, None}
use Rattle.bucket_kinds.specs.Device.{Device, moved, MayGoWell, WentWell, HasFailed, SomeWentWell}
use Rattle.bucket_kinds.specs.Reading.{MayGiveBytes, MayEnd}
use Rattle.run_model.specs.declared.bucket.Content.{Content}
use Rattle.run_model.specs.declared.bucket.Content.TheVariants as content
use Rattle.run_model.specs.declared.bucket.NamedBucket.{NamedBucket}
use Rattle.run_model.specs.Buckets.{is_eos}
use Rattle.run_model.specs.Cutting.{read_limit}
use Rattle.run_model.specs.Files.{parts_of}
use Rattle.run_model.specs.Passing.{Reads, Taken, content_taken, taken, delivered}
use Rattle.run_model.specs.State.{Out}
use Rattle.bucket_store.specs.Items.{Items}
use Rattle.interp_state.specs.Seen.{shown}
use Rattle.interp_calls.specs.declared.output.Fetched.{Fetched}
use Rattle.interp_calls.specs.declared.output.Fetched.TheVariants as fetched

abbrev pub IfElse : Bool → Type 0 → Type 0 → Type 0
IfElse true P Q = P
IfElse false P Q = Q

-- What one read of n bytes of a file may give. Where it fails the device is e, and no other read follows; else `next` is so.
abbrev pub PartGiven : Device → Device → ℕ → ℕ → ℕ → Option (List ℕ) → Type 0 → Type 0
PartGiven d e file start n (Some bytes) next = MayGiveBytes (d.numbered file) start n bytes × MayGoWell d.plan × next
PartGiven d e file start n None next = HasFailed d e ⊎ (WentWell d e × MayEnd (d.numbered file) start n)

-- A range in so many reads, of which the first has the number k. Each is of the device that the one before it left, and `next` says the same of
-- what follows, by the device and the number of the next read.
unfoldable pub PartsGiven : Device → Device → ℕ → ℕ → ℕ → ℕ → Reads → (Device → ℕ → Type 0) → ℕ → Type 0
PartsGiven d e zero file start len reads next k = next d k
PartsGiven d e (suc parts) file start len reads next k =
    PartGiven d e file start (min len read_limit) (reads k) (PartsGiven (moved d) e parts file (start + read_limit) (len - read_limit) reads next (k + 1))

abbrev pub ContentGiven : Device → Device → Content → Reads → (Device → ℕ → Type 0) → ℕ → Type 0
ContentGiven d e (content.Bytes bs) reads next k = next d k
ContentGiven d e (content.Range file start len) reads next k = PartsGiven d e (parts_of len) file start len reads next k
ContentGiven d e content.Nothing reads next k = next d k

-- The reads of the buckets before the first EOS, from number k on, up to one that fails: the device d may give these, and is e then.
unfoldable pub ReadsGiven : Device → Device → List NamedBucket → Reads → ℕ → Type 0
ReadsGiven d e [] reads k = e ≡ d
ReadsGiven d e (b ∷ bs) reads k = IfElse (is_eos b) (e ≡ d) (ContentGiven d e b.bucket.content reads (λ f j. ReadsGiven f e bs reads j) k)

abbrev pub out_of : List ℕ → Bool → Out
out_of bytes ended = record { bytes = bytes; ended = ended }

-- The last filter's brigade was delivered, by devices d and e. Nothing is read where the output has ended.
pub record WasDelivered (d e : Device) (before : Out) (items : List NamedBucket) (after : Out) (well : Bool) : Type 0 where
  pub reads : Reads
  pub given : IfElse before.ended (e ≡ d) (ReadsGiven d e items reads 0)
  pub told : delivered before items reads ≡ (after, well)

-- these are the reads from number k on
abbrev pub HasReads : Reads → ℕ → List (Option (List ℕ)) → Type 0
HasReads reads k [] = Unit {0}
HasReads reads k (g ∷ gs) = (reads k ≡ g) × HasReads reads (k + 1) gs

abbrev pub taken_by : List ℕ → Bool → ℕ → Taken
taken_by bytes whole k = record { bytes = bytes; whole = whole; reads = k }

-- These bytes were taken of a content, by devices d and e, and whether no read failed. Where none did more buckets may follow, and their reads
-- are of the device e.
pub record ContentTaken (d e : Device) (c : Content) (bytes : List ℕ) (whole : Bool) : Type 0 where
  pub reads : List (Option (List ℕ))
  pub takes : (k : ℕ) (rs : Reads) → HasReads rs k reads → content_taken c k rs ≡ taken_by bytes whole (k + length reads)
  pub went : whole ≡ true → SomeWentWell d e
  pub goes_on : whole ≡ true → (last : Device) (bs : List NamedBucket) (k : ℕ) (rs : Reads) → HasReads rs k reads
      → ReadsGiven e last bs rs (k + length reads) → ContentGiven d last c rs (λ f j. ReadsGiven f last bs rs j) k
  pub fails : whole ≡ false → (bs : List NamedBucket) (k : ℕ) (rs : Reads) → HasReads rs k reads → ContentGiven d e c rs (λ f j. ReadsGiven f e bs rs j) k

-- So were the buckets of a brigade.
pub record ItemsTaken (d e : Device) (xs : Items) (bytes : List ℕ) (whole : Bool) : Type 0 where
  pub reads : List (Option (List ℕ))
  pub takes : (runs : ℕ → Bool) (k : ℕ) (rs : Reads) → HasReads rs k reads → taken (shown runs xs) k rs ≡ taken_by bytes whole (k + length reads)
  pub given : (runs : ℕ → Bool) (k : ℕ) (rs : Reads) → HasReads rs k reads → ReadsGiven d e (shown runs xs) rs k

-- They were added to a list.

pub record ContentAdded (d e : Device) (c : Content) (whole : Bool) (old new : List ℕ) : Type 0 where
  pub added : List ℕ
  pub grown : new ≡ old ++ added
  pub taken_so : ContentTaken d e c added whole

pub record ItemsAdded (d e : Device) (xs : Items) (whole : Bool) (old new : List ℕ) : Type 0 where
  pub added : List ℕ
  pub grown : new ≡ old ++ added
  pub taken_so : ItemsTaken d e xs added whole

-- the bytes that were given: all, or none
abbrev pub given_of : Fetched → List ℕ → List ℕ
given_of fetched.All bytes = bytes
given_of fetched.Ended bytes = []
given_of fetched.Failed bytes = []

-- What became of n bytes of a file that were asked for in one call, from a place on.
abbrev pub IsFetched : Device → Device → ℕ → ℕ → ℕ → List ℕ → Fetched → Type 0
IsFetched d e file at n bytes fetched.All = MayGiveBytes (d.numbered file) at n bytes × WentWell d e
IsFetched d e file at n bytes fetched.Ended = MayEnd (d.numbered file) at n × WentWell d e
IsFetched d e file at n bytes fetched.Failed = HasFailed d e

-- They were added to a list where all of them were given.
pub record SpanAdded (d e : Device) (file at n : ℕ) (fetched : Fetched) (old new : List ℕ) : Type 0 where
  pub added : List ℕ
  pub grown : new ≡ old ++ given_of fetched added
  pub fetched_so : IsFetched d e file at n added fetched

-- A list has another at its front.
abbrev pub HasFront : List ℕ → List ℕ → Type 0
HasFront old new = take (length old) new ≡ old
