-- Rings of stored buckets, as the buckets that they show.
use Rattle.std.specs.Prelude.{◌≡◌, ◌==◌, ◌&&◌, ℕ, true, false, Bool, map, Option, None}
use Rattle.std.specs.List.{list_all}
use Rattle.std.specs.Option.{option_map}
use Rattle.bucket_ring.specs.Lists.{list_at}
use Rattle.run_model.specs.declared.bucket.Bucket.{Bucket}
use Rattle.run_model.specs.declared.bucket.Content.TheVariants as content
use Rattle.run_model.specs.declared.bucket.Kind.{Kind}
use Rattle.run_model.specs.declared.bucket.Kind.TheVariants as kind
use Rattle.bucket_kinds.specs.declared.stored.Kept.{Kept}
use Rattle.bucket_kinds.specs.declared.stored.Kept.TheVariants as kept
use Rattle.bucket_kinds.specs.declared.stored.Stored.{Stored}
use Rattle.bucket_kinds.specs.Stored.{Look, is_whole, shown}
use Rattle.bucket_store.specs.Items.{Item, Items, StoredItem, StoredItems}

abbrev pub shown_item : Look → StoredItem → Item
shown_item look x = (x.0, shown look x.1)

abbrev pub shown_items : Look → StoredItems → Items
shown_items look xs = map (shown_item look) xs

-- the buckets of each ring
abbrev pub all_shown : Look → (ℕ → Option StoredItems) → ℕ → Option Items
all_shown look lists n = option_map (shown_items look) (lists n)

-- The bytes of a POOL bucket lie in its pool (apr_buckets_pool.c): whether they lie in the region of this pool, or there are none.
abbrev pub lies_in : ℕ → Kept → Bool
lies_in pool (kept.Own (content.Bytes bs)) = false
lies_in pool (kept.Own (content.Range file start len)) = true
lies_in pool (kept.Own content.Nothing) = true
lies_in pool (kept.Placed p) = p.pool == pool

-- whether a bucket of this kind may keep this
abbrev pub lies_right : Kind → Kept → Bool
lies_right kind.Heap k = true
lies_right kind.Transient k = true
lies_right kind.Immortal k = true
lies_right (kind.Pool pool) k = lies_in pool k
lies_right kind.File k = true
lies_right kind.Flush k = true
lies_right kind.Eos k = true

-- whether a bucket has a content of its own, as a new one does
abbrev pub keeps_own : Kept → Bool
keeps_own (kept.Own c) = true
keeps_own (kept.Placed p) = false

abbrev pub is_own : Stored → Bool
is_own x = keeps_own x.kept

-- the bucket that one with a content of its own shows
abbrev pub own_bucket : Stored → Bucket
own_bucket x = shown (λ pool s. None) x

-- What lies in a region is there, and the bytes of a POOL bucket lie in the region of its pool.
abbrev pub is_held : Look → Stored → Bool
is_held look x = is_whole look x.kept && lies_right x.kind x.kept

abbrev pub held_item : Look → StoredItem → Bool
held_item look x = is_held look x.1

-- All buckets are held so.
abbrev pub AreHeld : Look → (ℕ → Option StoredItems) → Type 0
AreHeld look lists = (b : ℕ) → list_all (held_item look) (list_at lists b) ≡ true
