-- What is true of rings whose POOL bytes lie in regions, seen as the buckets that they show.
use Rattle.std.proofs.Common.{◌≡◌, ℕ, ◌<◌, ◌^◌, true, Some, is_some}
use Rattle.bucket_ring.specs.declared.names.BucketId.{BucketId}
use Rattle.bucket_ring.specs.declared.rings.Rings.{Ghosts}
use Rattle.bucket_ring.specs.Lists.{list_at, times, found}
use Rattle.bucket_ring.specs.Kept.{once_in, IsKept}
use Rattle.bucket_ring.specs.Laws as ring
use Rattle.bucket_kinds.specs.declared.stored.Stored.{Stored}
use Rattle.bucket_store.specs.declared.bucket_store.BucketStore.{BucketStore}
use Rattle.bucket_store.specs.Regions.{look}
use Rattle.bucket_store.specs.BucketStore.{seen}
use Rattle.bucket_store.proofs.Shown.{kept_shown}

module _ {R : Type 0} {g : Ghosts R Stored} (s : BucketStore R g) where
  pub kept : IsKept (g.ring_at s.rings.rings) (seen s) (g.next_name s.rings.rings)
  unfolding seen
  kept = kept_shown (look s.regions) (g.ring_at s.rings.rings) (g.lists s.rings.rings) (g.next_name s.rings.rings) s.rings.kept

  pub counted : (id : BucketId) (r : ℕ) → times id (list_at (seen s) r) ≡ once_in r (g.ring_at s.rings.rings id)
  counted = kept.counted

  pub found_in : (id : BucketId) (r : ℕ) → g.ring_at s.rings.rings id ≡ Some r → is_some (found id (list_at (seen s) r)) ≡ true
  found_in = ring.found_in (g.ring_at s.rings.rings) (seen s) (g.next_name s.rings.rings) kept

  pub in_found : (id : BucketId) (r : ℕ) → is_some (found id (list_at (seen s) r)) ≡ true → g.ring_at s.rings.rings id ≡ Some r
  in_found = ring.in_found (g.ring_at s.rings.rings) (seen s) (g.next_name s.rings.rings) kept

  pub ring_there : (id : BucketId) (r : ℕ) → g.ring_at s.rings.rings id ≡ Some r → is_some (seen s r) ≡ true
  ring_there = ring.ring_there (g.ring_at s.rings.rings) (seen s) (g.next_name s.rings.rings) kept

  pub young : (id : BucketId) → is_some (g.ring_at s.rings.rings id) ≡ true → id.birth < g.next_name s.rings.rings
  young = kept.young

  pub limit : g.next_name s.rings.rings < 2 ^ 64
  limit = kept.limit
