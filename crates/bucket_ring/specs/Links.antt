-- What stands in the rings, read along the links.
use Rattle.std.specs.Prelude.{◌≡◌, ◌≢◌, ◌≤◌, ℕ, is_some, Bool, true, false, if◌then◌else◌, Option, None, Some, List, [], ◌∷◌}
use Rattle.std.specs.Option.{option_map, option_map_or, option_and_then}
use Rattle.raw_nodes.specs.declared.node.SlotBucket.{SlotBucket}
use Rattle.raw_nodes.specs.declared.node.Node.{Node}
use Rattle.raw_nodes.specs.Loads.{bucket_in}
use Rattle.bucket_ring.specs.declared.names.BucketId.{BucketId}
use Rattle.bucket_ring.specs.declared.links.Position.{Position}
use Rattle.bucket_ring.specs.declared.links.Position.TheVariants.{Tail, Head as AtHead, Before, After}
use Rattle.bucket_ring.specs.declared.links.RingHead.{RingHead}
use Rattle.bucket_ring.specs.declared.links.Links.{Links}
use Rattle.bucket_ring.specs.declared.slots.Slots.{Ghosts}
use Rattle.name_table.specs.NameTable.{value_in}
use Rattle.bucket_ring.specs.Lists.{upd, same}
use Rattle.bucket_ring.specs.Walks.{id_of, slots, turned, SlotsLinked}

-- the spot is in a ring
abbrev pub IsSpot : (BucketId → Option ℕ) → ℕ → Position → Type 0
IsSpot ring_at r Tail = Unit {0}
IsSpot ring_at r AtHead = Unit {0}
IsSpot ring_at r (Before id) = ring_at id ≡ Some r
IsSpot ring_at r (After id) = ring_at id ≡ Some r

-- the slot that is behind what is put at a spot
abbrev pub target : (ℕ → ℕ) → RingHead → Position → ℕ
target behind h Tail = h.sentinel
target behind h AtHead = behind h.sentinel
target behind h (Before id) = id.slot
target behind h (After id) = behind id.slot

module _ {T : Type 0} where
  -- a bucket, if there is one, before others
  abbrev pub with_first : Option (BucketId × T) → List (BucketId × T) → List (BucketId × T)
  with_first None bs = bs
  with_first (Some b) bs = b ∷ bs

  -- the buckets of these slots
  abbrev pub listed : (ℕ → Option (BucketId × T)) → List ℕ → List (BucketId × T)
  listed bucket [] = []
  listed bucket (k ∷ ks) = with_first (bucket k) (listed bucket ks)

  -- whether this bucket has the name
  abbrev pub is_named : BucketId → Option (BucketId × T) → Bool
  is_named id None = false
  is_named id (Some b) = same b.0 id

  -- the ring that a bucket is in
  abbrev pub ring_named : (ℕ → Option (BucketId × T)) → (ℕ → Option ℕ) → BucketId → Option ℕ
  ring_named bucket at id = if is_named id (bucket id.slot) then at id.slot else None

  abbrev pub lists_by : (ℕ → ℕ) → (ℕ → Option (BucketId × T)) → (ℕ → Option RingHead) → ℕ → Option (List (BucketId × T))
  lists_by behind bucket heads r = option_map (λ (h : RingHead). listed bucket (slots behind (Some h))) (heads r)

  abbrev pub sentinel_ring : Node T → Option ℕ
  sentinel_ring node = option_map_or (λ _. None) (bucket_in node.load) (Some node.ring)

  abbrev pub bucket_ring : Node T → Option ℕ
  bucket_ring node = option_map_or (λ _. Some node.ring) (bucket_in node.load) None

  abbrev pub with_name : ℕ → SlotBucket T → BucketId × T
  with_name k bucket = (id_of k bucket.birth, bucket.payload)

  abbrev pub named_in : ℕ → Node T → Option (BucketId × T)
  named_in k node = option_map (with_name k) (bucket_in node.load)

  -- what a slot says of its bucket: `mark` the ring whose sentinel it is, `at` the ring that its bucket is in
  pub record IsShown (mark at : ℕ → Option ℕ) (bucket : ℕ → Option (BucketId × T)) : Type 0 where
    pub named : (k : ℕ) (b : BucketId × T) → bucket k ≡ Some b → b.0.slot ≡ k
    pub full : (k : ℕ) → is_some (at k) ≡ is_some (bucket k)
    pub empty : (k r : ℕ) → mark k ≡ Some r → bucket k ≡ None

module _ {T N : Type 0} {g : Ghosts N T} where
  -- a slot where nothing is leads to itself
  unfoldable pub behind_of : Links T N g → ℕ → ℕ
  behind_of links k = option_map_or (λ (node : Node T). node.behind) (g.node links.nodes k) k

  unfoldable pub before_of : Links T N g → ℕ → ℕ
  before_of links k = option_map_or (λ (node : Node T). node.before) (g.node links.nodes k) k

  -- the ring whose sentinel is in a slot
  unfoldable pub mark_of : Links T N g → ℕ → Option ℕ
  mark_of links k = option_and_then sentinel_ring (g.node links.nodes k)

  -- the ring of the bucket in a slot
  unfoldable pub at_of : Links T N g → ℕ → Option ℕ
  at_of links k = option_and_then bucket_ring (g.node links.nodes k)

  -- the bucket in a slot
  unfoldable pub bucket_of : Links T N g → ℕ → Option (BucketId × T)
  bucket_of links k = option_and_then (named_in k) (g.node links.nodes k)

  unfoldable pub head_of : Links T N g → ℕ → Option RingHead
  head_of links r = value_in links.heads r

  -- the slots before and behind each are the same
  pub record KeepsLinks (old new : Links T N g) : Type 0 where
    pub behind : (j : ℕ) → behind_of new j ≡ behind_of old j
    pub before : (j : ℕ) → before_of new j ≡ before_of old j

  -- each slot has the same bucket, in the same ring
  pub record KeepsBuckets (old new : Links T N g) : Type 0 where
    pub mark : (j : ℕ) → mark_of new j ≡ mark_of old j
    pub at : (j : ℕ) → at_of new j ≡ at_of old j
    pub bucket : (j : ℕ) → bucket_of new j ≡ bucket_of old j

  -- as many slots are left
  pub record KeepsRoom (old new : Links T N g) : Type 0 where
    pub there : (j : ℕ) → is_some (g.node new.nodes j) ≡ is_some (g.node old.nodes j)
    pub room : (n : ℕ) → n ≤ g.room old.nodes → n ≤ g.room new.nodes

  -- the same slots, with these links
  pub record Relinked (old new : Links T N g) (to_behind to_before : ℕ → ℕ) : Type 0 where
    pub behind : (j : ℕ) → behind_of new j ≡ to_behind j
    pub before : (j : ℕ) → before_of new j ≡ to_before j
    pub buckets : KeepsBuckets old new
    pub room : KeepsRoom old new

  -- slot k has this bucket, in this ring
  pub record Refilled (old new : Links T N g) (k : ℕ) (bucket : Option (BucketId × T)) (ring : Option ℕ) : Type 0 where
    pub bucket_new : (j : ℕ) → bucket_of new j ≡ upd (bucket_of old) k bucket j
    pub at : (j : ℕ) → at_of new j ≡ upd (at_of old) k ring j
    pub mark : (j : ℕ) → j ≢ k → mark_of new j ≡ mark_of old j
    pub links : KeepsLinks old new
    pub room : KeepsRoom old new

  -- the ring that a bucket is in
  unfoldable pub ring_at : Links T N g → BucketId → Option ℕ
  ring_at links = ring_named (bucket_of links) (at_of links)

  -- what stands in each ring
  unfoldable pub lists_of : Links T N g → ℕ → Option (List (BucketId × T))
  lists_of links = lists_by (behind_of links) (bucket_of links) (head_of links)

  abbrev pub AreLinked : Links T N g → Type 0
  AreLinked links = SlotsLinked (behind_of links) (before_of links) (mark_of links) (at_of links) (head_of links)

  -- a slot that is in no ring, and leads to itself
  pub record IsLooseSlot (links : Links T N g) (k : ℕ) : Type 0 where
    pub there : is_some (g.node links.nodes k) ≡ true
    pub itself : behind_of links k ≡ k
    pub nowhere : at_of links k ≡ None
    pub apart : (r : ℕ) (h : RingHead) → head_of links r ≡ Some h → h.sentinel ≢ k

  -- what changes where slot k, which then comes before slot a, has another bucket in another ring, and ring r another count
  pub record Changed (old new : Links T N g) (k a r : ℕ) (bucket : Option (BucketId × T)) (ring : Option ℕ) (head : RingHead) : Type 0 where
    pub behind : (j : ℕ) → behind_of new j ≡ turned (behind_of old) (before_of old) a k j
    pub before : (j : ℕ) → before_of new j ≡ turned (before_of old) (behind_of old) k a j
    pub bucket_new : (j : ℕ) → bucket_of new j ≡ upd (bucket_of old) k bucket j
    pub at : (j : ℕ) → at_of new j ≡ upd (at_of old) k ring j
    pub mark : (j : ℕ) → j ≢ k → mark_of new j ≡ mark_of old j
    pub heads : (n : ℕ) → head_of new n ≡ upd (head_of old) r (Some head) n
    pub room : KeepsRoom old new
