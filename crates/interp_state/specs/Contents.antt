-- The buckets of a brigade that may be there.
use Rattle.std.specs.Prelude.{ℕ, Bool, Option, None, Some, List, []}
use Rattle.bucket_ring.specs.Lists.{list_at}
use Rattle.run_model.specs.declared.bucket.NamedBucket.{NamedBucket}
use Rattle.bucket_store.specs.Items.{Items}
use Rattle.interp_state.specs.Seen.{shown}

-- the buckets of the brigade of this name; none where there is no name
abbrev pub contents : (ℕ → Bool) → (ℕ → Option Items) → Option ℕ → List NamedBucket
contents runs rings None = []
contents runs rings (Some n) = shown runs (list_at rings n)
