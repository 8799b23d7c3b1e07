-- The room that the buckets left take.
use Rattle.std.proofs.Common.{◌≡◌, ℕ, ◌+◌, ◌≤◌, Bool, true, false, [], ◌∷◌, refl, ap, arith}
use Rattle.std.specs.Prelude.{if◌then◌else◌}
use Rattle.bucket_ring.specs.declared.names.BucketId.{BucketId}
use Rattle.run_model.specs.declared.bucket.Bucket.{Bucket}
use Rattle.run_model.specs.declared.bucket.Content.{Content}
use Rattle.run_model.specs.declared.bucket.Content.TheVariants as content
use Rattle.run_model.specs.Buckets.{is_eos_kind}
use Rattle.run_model.specs.Cutting.{length_of}
use Rattle.bucket_store.specs.Items.{Items}
use Rattle.interp_calls.specs.declared.output_block.Filled.{Filled}
use Rattle.interp_calls.specs.Filled.{HasRoomFor, bytes_before_eos, reads}

pub none_before : bytes_before_eos [] ≡ 0
unfolding bytes_before_eos
none_before = refl

pub eos_before : (id : BucketId) (x : Bucket) (ys : Items) → is_eos_kind x.kind ≡ true → bytes_before_eos ((id, x) ∷ ys) ≡ 0
unfolding bytes_before_eos
eos_before id x ys eos = ap (λ (t : Bool). if t then 0 else length_of x.content + bytes_before_eos ys) eos

pub plain_before : (id : BucketId) (x : Bucket) (ys : Items) → is_eos_kind x.kind ≡ false → bytes_before_eos ((id, x) ∷ ys) ≡ length_of x.content + bytes_before_eos ys
unfolding bytes_before_eos
plain_before id x ys plain = ap (λ (t : Bool). if t then 0 else length_of x.content + bytes_before_eos ys) plain

-- room for more is room for less
pub less_room : (n m : ℕ) (f : Filled) → n ≤ m → HasRoomFor m f → HasRoomFor n f
less_room n m f few room = (room.0, (let fits = room.1 in omega (arith, few, fits)))

-- nothing is read of a content without bytes
pub empty_unread : (c : Content) → length_of c ≡ 0 → reads c ≡ false
empty_unread (content.Bytes bs) none = refl
empty_unread (content.Range file start len) none = rw none refl
empty_unread content.Nothing none = refl
