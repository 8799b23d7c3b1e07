-- What a read leaves of a bucket, and that a bucket which is no range of a file is read as it is.
use Rattle.std.proofs.Common.{◌≡◌, ◌≢◌, ℕ, arith, Option, None, Some, Ok, List, [], refl}
use Rattle.std.proofs.lemmas.Bool.Decides.{nat_tests}
use Rattle.run_model.specs.declared.bucket.Bucket.{Bucket}
use Rattle.run_model.specs.declared.bucket.Kind.{Kind}
use Rattle.run_model.specs.declared.bucket.Home.{Home}
use Rattle.run_model.specs.declared.bucket.Content.{Content}
use Rattle.run_model.specs.declared.bucket.Content.TheVariants as content
use Rattle.run_model.specs.Cutting.{wanted, read_as, read_of}
use Rattle.bucket_kinds.specs.Device.{Device}
use Rattle.bucket_kinds.specs.Reading.{GivesFor}
use Rattle.bucket_ring.specs.declared.names.BucketId.{BucketId}
use Rattle.bucket_ring.specs.Lists.{list_at, found}
use Rattle.bucket_store.specs.Items.{Items, range_in, replaced}
use Rattle.brigade_ops.specs.Reads.{IsBucketRead}
use Rattle.bucket_store.proofs.Lists.{on_same, put_back}

-- what a read leaves does not depend on the bytes
pub rest_same : (bytes : List ℕ) (x : Bucket) → (read_of bytes x).1 ≡ (read_of [] x).1
rest_same bytes x = go x.content where
  go : (c : Content) → (read_as bytes x c).1 ≡ (read_as [] x c).1
  go (content.Bytes bs) = refl
  go (content.Range file start len) = refl
  go content.Nothing = refl

-- a read that leaves a rest wants bytes
pub left_wanted : (x y : Bucket) → (read_of [] x).1 ≡ Some y → wanted x.content ≢ 0
left_wanted x y is none = go x.content is none where
  go : (c : Content) → (read_as [] x c).1 ≡ Some y → wanted c ≡ 0 → ⊥
  go (content.Bytes bs) is none = absurd (cc)
  go (content.Range file start len) is none = grind (arith, nat_tests)
  go content.Nothing is none = absurd (cc)

-- what is no range of a file is left as it is, and no bytes are wanted of it
plain : (x : Bucket) → range_in x ≡ None → (read_of [] x ≡ (x, None)) × (wanted x.content ≡ 0) × ((d : Device) → GivesFor d x.content [])
plain x none = go x.kind x.home x.content none where
  go : (k : Kind) (h : Home) (c : Content) → let y : Bucket = record { kind = k; content = c; home = h } in range_in y ≡ None
      → (read_of [] y ≡ (y, None)) × (wanted c ≡ 0) × ((d : Device) → GivesFor d c [])
  go k h (content.Bytes bs) none = (refl, refl, λ d. tt)
  go k h (content.Range file start len) none = absurd (cc)
  go k h content.Nothing none = (refl, refl, λ d. tt)

pub unread_is : (id : BucketId) (at : Option ℕ) (d : Device) (old : ℕ → Option Items) (n : ℕ) (x : Bucket) → range_in x ≡ None
    → ((b : ℕ) → at ≡ Some b → found id (list_at old b) ≡ Some x) → IsBucketRead id x at d d old old n n (Ok None)
unread_is id at d old n x none here =
    let same = plain x none in
    record {
      ok = λ b e. ([], same.2 d, λ m. rw same.0 (on_same b m (replaced id x []) old (put_back id x (list_at old b) (here b e))));
      rest = rw same.0 refl;
      names = rw same.0 refl;
      unread = λ w. (refl, refl);
      asked = rw same.1 refl;
      fault = λ e. absurd (cc);
    }
