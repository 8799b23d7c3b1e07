-- Of the buckets that an instance has: contents fit their kinds, and ranges of files end below 2 ^ 64.
use Rattle.std.specs.Prelude.{◌≡◌, ℕ, Some}
use Rattle.bucket_ring.specs.declared.names.BucketId.{BucketId}
use Rattle.bucket_ring.specs.declared.rings.Rings.{Ghosts}
use Rattle.run_model.specs.declared.bucket.Bucket.{Bucket}
use Rattle.run_model.specs.Cutting.{EndsInFile, form_of, form_of_kind}
use Rattle.bucket_kinds.specs.declared.stored.Stored.{Stored}
use Rattle.brigade_ops.specs.declared.store.Brigades.{Brigades}
use Rattle.brigade_ops.specs.Store.{brigade_of, bucket_at}
use Rattle.interp_state.specs.declared.machine.Instance.{Instance}
use Rattle.interp_state.specs.Slots.{slot_at, name_in}

module _ {R : Type 0} {g : Ghosts R Stored} where
  abbrev pub EndInFiles : Brigades R g → Instance → Type 0
  EndInFiles store i = (b n : ℕ) (id : BucketId) (x : Bucket) → name_in (slot_at i b) ≡ Some n → brigade_of store id ≡ Some n → bucket_at store id ≡ Some x → EndsInFile x.content

  abbrev pub FitKinds : Brigades R g → Instance → Type 0
  FitKinds store i = (b n : ℕ) (id : BucketId) (x : Bucket) → name_in (slot_at i b) ≡ Some n → brigade_of store id ≡ Some n → bucket_at store id ≡ Some x → form_of x.content ≡ form_of_kind x.kind
