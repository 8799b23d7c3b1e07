-- What contracts see of rings whose POOL bytes lie in regions.
use Rattle.std.specs.Prelude.{◌≡◌, ℕ, Option, None}
use Rattle.apr_region.specs.declared.region.Span.{Span}
use Rattle.bucket_ring.specs.declared.rings.Rings.{Ghosts}
use Rattle.bucket_kinds.specs.declared.stored.Stored.{Stored}
use Rattle.bucket_store.specs.declared.bucket_store.BucketStore.{BucketStore}
use Rattle.bucket_store.specs.Noted.{NoneDepends}
use Rattle.bucket_store.specs.Items.{Items}
use Rattle.bucket_store.specs.Regions.{look}
use Rattle.bucket_store.specs.Shown.{all_shown}

module _ {R : Type 0} {g : Ghosts R Stored} where
  unfoldable pub seen : BucketStore R g → ℕ → Option Items
  seen bucket_store = all_shown (look bucket_store.regions) (g.lists bucket_store.rings.rings)

  -- No bucket depends on a pool: by its kind, its home, or the place where its bytes lie.
  abbrev pub IsUnused : BucketStore R g → ℕ → Type 0
  IsUnused bucket_store p = NoneDepends (g.ring_at bucket_store.rings.rings) (g.lists bucket_store.rings.rings) p

  -- No bytes lie in the region of a pool, if no bucket depends on it.
  abbrev pub IsGivenUp : BucketStore R g → ℕ → Type 0
  IsGivenUp bucket_store p = IsUnused bucket_store p → (s : Span) → look bucket_store.regions p s ≡ None
