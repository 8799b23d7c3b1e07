-- What is true of each store of brigades.
use Rattle.std.proofs.Common.{◌≡◌, ℕ, ◌<◌, ◌^◌, true, Option, None, Some, is_some, [], refl, sym, ◌∙◌, ap, arith}
use Rattle.std.specs.Option.{option_map_or}
use Rattle.bucket_ring.specs.declared.names.BucketId.{BucketId}
use Rattle.bucket_ring.specs.declared.rings.Rings.{Ghosts}
use Rattle.bucket_ring.specs.Lists.{list_at, times, found}
use Rattle.bucket_ring.specs.Kept.{once_in, IsKept}
use Rattle.bucket_ring.specs.Laws as ring
use Rattle.run_model.specs.declared.bucket.Bucket.{Bucket}
use Rattle.bucket_kinds.specs.declared.stored.Stored.{Stored}
use Rattle.brigade_ops.specs.declared.store.Brigades.{Brigades}
use Rattle.bucket_store.specs.Items.{Items}
use Rattle.bucket_store.specs.Laws.{IsGiven}
use Rattle.brigade_ops.specs.Store.{lists, brigade_of, bucket_at, next_name}
use Rattle.bucket_store.proofs.Lists.{and_then_told}
use Rattle.bucket_store.proofs.Saves.{here_at}
use Rattle.bucket_store.proofs.BucketStores as shelf

module _ {R : Type 0} {g : Ghosts R Stored} (store : Brigades R g) where
  -- all of it
  pub kept : IsKept (brigade_of store) (lists store) (next_name store)
  unfolding lists brigade_of next_name
  kept = shelf.kept store.held

  -- each bucket stands once in the brigade that it is in, and in no other
  pub counted : (id : BucketId) (b : ℕ) → times id (list_at (lists store) b) ≡ once_in b (brigade_of store id)
  counted = kept.counted

  -- a bucket that is in a brigade is found there
  pub found_in : (id : BucketId) (b : ℕ) → brigade_of store id ≡ Some b → is_some (found id (list_at (lists store) b)) ≡ true
  found_in = ring.found_in (brigade_of store) (lists store) (next_name store) kept

  -- a bucket that is found in a brigade is in it
  pub in_found : (id : BucketId) (b : ℕ) → is_some (found id (list_at (lists store) b)) ≡ true → brigade_of store id ≡ Some b
  in_found = ring.in_found (brigade_of store) (lists store) (next_name store) kept

  -- the brigade that a bucket is in is there
  pub brigade_there : (id : BucketId) (b : ℕ) → brigade_of store id ≡ Some b → is_some (lists store b) ≡ true
  brigade_there = ring.ring_there (brigade_of store) (lists store) (next_name store) kept

  -- a bucket was named before
  pub young : (id : BucketId) → is_some (brigade_of store id) ≡ true → id.birth < next_name store
  young = kept.young

  -- no two buckets have one birth
  pub births : (i j : BucketId) → is_some (brigade_of store i) ≡ true → is_some (brigade_of store j) ≡ true → i.birth ≡ j.birth → i.slot ≡ j.slot
  births = kept.births

  -- a brigade was named before
  pub brigades : (b : ℕ) → is_some (lists store b) ≡ true → b < next_name store
  brigades = kept.rings

  -- no name is past `u64::MAX`
  pub limit : next_name store < 2 ^ 64
  limit = kept.limit

  -- a bucket that stands in a list is in that brigade
  pub in_listed : (id : BucketId) (b : ℕ) → 0 < times id (list_at (lists store) b) → brigade_of store id ≡ Some b
  in_listed id b h = in_found id b (ring.times_found id (list_at (lists store) b) h)

  -- no bucket of a list has the birth of a bucket that is there
  pub given : (id : BucketId) (b : ℕ) → is_some (brigade_of store id) ≡ true → IsGiven id (list_at (lists store) b)
  given id b there i h e = births i id (ap is_some (in_listed i b h)) there e

  -- the bucket of a name, and what is found in its brigade
  pub bucket_found : (id : BucketId) (b : ℕ) (x : Bucket) → brigade_of store id ≡ Some b → bucket_at store id ≡ Some x → found id (list_at (lists store) b) ≡ Some x
  unfolding lists brigade_of bucket_at
  bucket_found id b x at is = and_then_told (brigade_of store id) (λ q. found id (list_at (lists store) q)) b x at is

  pub found_bucket : (id : BucketId) (b : ℕ) (x : Bucket) → brigade_of store id ≡ Some b → found id (list_at (lists store) b) ≡ Some x → bucket_at store id ≡ Some x
  unfolding lists brigade_of bucket_at
  found_bucket id b x at is = here_at (brigade_of store id) (lists store) id b x at is

same_ring : (o p : Option ℕ) → ((b : ℕ) → once_in b o ≡ once_in b p) → o ≡ p
same_ring None None same = refl
same_ring None (Some q) same = absurd (omega (arith, same q, ring.once_here q))
same_ring (Some q) p same = sym (ring.once_some q p (omega (arith, same q, ring.once_here q)))

-- Where two stores have the same lists, each bucket is in the same brigade.
module _ {R : Type 0} {g : Ghosts R Stored} (old new : Brigades R g) (same : (b : ℕ) → lists new b ≡ lists old b) where
  pub same_brigade : (id : BucketId) → brigade_of new id ≡ brigade_of old id
  same_brigade id =
      same_ring (brigade_of new id) (brigade_of old id) (λ b. sym (counted new id b) ∙ (ap (λ (o : Option Items). times id (option_map_or (λ xs. xs) o [])) (same b) ∙ counted old id b))

  -- so all buckets have names below the next of the other
  pub births_below : (id : BucketId) → is_some (brigade_of new id) ≡ true → id.birth < next_name old
  births_below id there = young old id (sym (ap is_some (same_brigade id)) ∙ there)
