-- A read of a bucket in a brigade (apr_bucket_read).
use Rattle.std.specs.Prelude.{◌≡◌, ◌⊎◌, ℕ, ◌+◌, ◌&&◌, if◌then◌else◌, Option, None, Some, is_some, is_ok, Result, Ok, Err, IfOk, OnOk, OnErr, List, []}
use Rattle.bucket_ring.specs.declared.names.BucketId.{BucketId}
use Rattle.bucket_ring.specs.Lists.{on}
use Rattle.run_model.specs.declared.bucket.Bucket.{Bucket}
use Rattle.run_model.specs.declared.bucket.Content.{Content}
use Rattle.run_model.specs.Cutting.{wanted, read_of}
use Rattle.bucket_kinds.specs.Device.{Device, WentWell, HasFailed, WasAsked}
use Rattle.bucket_kinds.specs.declared.refusal.ReadFault.{ReadFault}
use Rattle.bucket_kinds.specs.Reading.{GivesFor, EndsWithin}
use Rattle.bucket_store.specs.declared.refusal.ReadRefusal.{ReadRefusal}
use Rattle.bucket_store.specs.declared.refusal.ReadRefusal.TheVariants as refusal
use Rattle.bucket_store.specs.Items.{Items, replaced, rest_item}

-- A device was asked for the bytes of a content, or the read failed.
pub record IsAskedFor {A : Type 0} (x : Content) (d e : Device) (result : Result A ReadFault) : Type 0 where
  pub asked : OnOk result (WasAsked (wanted x) d e)
  pub fault : OnErr result (HasFailed d e ⊎ (WentWell d e × EndsWithin d x))
  pub open_files : e.numbered ≡ d.numbered

-- The bucket x of the name id was read. What a read leaves of a longer range stands behind it under a name of its own.
pub record IsBucketRead (id : BucketId) (x : Bucket) (at : Option ℕ) (d e : Device) (old new : ℕ → Option Items) (next after : ℕ) (result : Result (Option BucketId) ReadRefusal) : Type 0 where
  pub ok : IfOk result (λ rest. (b : ℕ) → at ≡ Some b → (bytes : List ℕ) × GivesFor d x.content bytes
      × ((m : ℕ) → new m ≡ on b (replaced id (read_of bytes x).0 (rest_item rest (read_of bytes x).1)) old m))
  pub rest : IfOk result (λ rest. is_some rest ≡ is_some (read_of [] x).1)
  pub names : after ≡ (if is_ok result && is_some (read_of [] x).1 then next + 1 else next)
  pub unread : wanted x.content ≡ 0 → (result ≡ Ok None) × (e ≡ d)
  pub asked : OnOk result (WasAsked (wanted x.content) d e)
  pub fault : result ≡ Err refusal.ReadFault → HasFailed d e ⊎ (WentWell d e × EndsWithin d x.content)
