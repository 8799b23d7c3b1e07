-- Which items have their names under the pools that they depend on.
use Rattle.std.specs.Prelude.{◌≡◌, ◌==◌, ℕ, Bool, true, false, ◌&&◌, ◌||◌, Option, None, Some}
use Rattle.std.specs.List.{list_all}
use Rattle.std.specs.Option.{option_and_then}
use Rattle.bucket_kinds.specs.declared.stored.Kept.{Kept}
use Rattle.bucket_kinds.specs.declared.stored.Kept.TheVariants as kept
use Rattle.bucket_kinds.specs.declared.stored.Stored.{Stored}
use Rattle.run_model.specs.declared.bucket.Kind.{Kind}
use Rattle.run_model.specs.declared.bucket.Home.{Home}
use Rattle.bucket_ring.specs.declared.names.BucketId.{BucketId}
use Rattle.bucket_ring.specs.Lists.{list_at, found}
use Rattle.bucket_store.specs.Due.{kind_pool, home_pool, place_reached, kind_reached, home_reached}
use Rattle.bucket_store.specs.Items.{StoredItem, StoredItems}

-- the bucket of a name, by what stands in each brigade
abbrev pub bucket_named : (BucketId → Option ℕ) → (ℕ → Option StoredItems) → BucketId → Option Stored
bucket_named at lists id = option_and_then (λ b. found id (list_at lists b)) (at id)

-- the pool in whose region the bytes lie
abbrev pub place_of : Kept → Option ℕ
place_of (kept.Own c) = None
place_of (kept.Placed p) = Some p.pool

-- whether a stored bucket depends on one of these pools
abbrev pub held_under : (ℕ → Bool) → Stored → Bool
held_under reached x = kind_reached reached x.kind || (home_reached reached x.home || place_reached reached (place_of x.kept))

-- whether it is there and depends on a pool
abbrev pub still_under : ℕ → Option Stored → Bool
still_under p None = false
still_under p (Some x) = held_under (λ q. q == p) x

-- No bucket that is there depends on a pool.
abbrev pub NoneDepends : (BucketId → Option ℕ) → (ℕ → Option StoredItems) → ℕ → Type 0
NoneDepends at lists p = (id : BucketId) → still_under p (bucket_named at lists id) ≡ false

-- whether a pool passes a test, if there is one,
abbrev pub place_under : (ℕ → Bool) → Option ℕ → Bool
place_under test None = true
place_under test (Some p) = test p

-- as the one that bytes lie in,
abbrev pub kind_under : (ℕ → Bool) → Kind → Bool
kind_under test k = place_under test (kind_pool k)

-- and the one that is a home
abbrev pub home_under : (ℕ → Bool) → Home → Bool
home_under test h = place_under test (home_pool h)

-- whether a bucket has its name under each pool that it depends on
abbrev pub is_noted : (ℕ → BucketId → Bool) → StoredItem → Bool
is_noted names x = kind_under (λ p. names p x.0) x.1.kind && (home_under (λ p. names p x.0) x.1.home && place_under (λ p. names p x.0) (place_of x.1.kept))

-- All buckets have.
abbrev pub AreNoted : (ℕ → BucketId → Bool) → (ℕ → Option StoredItems) → Type 0
AreNoted names lists = (b : ℕ) → list_all (is_noted names) (list_at lists b) ≡ true
