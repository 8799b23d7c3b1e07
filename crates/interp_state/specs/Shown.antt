-- The bucket of a name, as the model has it.
use Rattle.std.specs.Prelude.{ℕ, Bool, Option, None, Some}
use Rattle.std.specs.Option.{option_map}
use Rattle.bucket_ring.specs.declared.names.BucketId.{BucketId}
use Rattle.run_model.specs.declared.bucket.Bucket.{Bucket}
use Rattle.run_model.specs.declared.bucket.NamedBucket.{NamedBucket}
use Rattle.bucket_store.specs.Items.{named_item}
use Rattle.interp_state.specs.Seen.{item_in}

-- the bucket of a name as it reads while these calls run
abbrev pub shown_at : (ℕ → Bool) → (BucketId → Option Bucket) → Option BucketId → Option NamedBucket
shown_at runs at None = None
shown_at runs at (Some id) = option_map (λ x. named_item (item_in runs (id, x))) (at id)
