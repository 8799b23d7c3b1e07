-- A bucket that goes to another ring in its slot: the links show what they would if it had been taken out and put in again.
use Rattle.std.proofs.Common.{◌≡◌, ◌≢◌, ℕ, ◌+◌, ◌-◌, ◌^◌, ◌<◌, ◌≤◌, Bool, true, false, if◌then◌else◌, Option, None, Some, is_some, [], ◌∷◌, length, refl, ap, sym, subst, ◌∙◌, arith, inl, inr}
use Rattle.std.proofs.lemmas.Bool.{cases_eq}
use Rattle.raw_nodes.specs.declared.node.Node.{Node}
use Rattle.raw_nodes.specs.declared.node.Load.TheVariants.{Sentinel}
use Rattle.bucket_ring.specs.declared.names.BucketId.{BucketId}
use Rattle.bucket_ring.specs.declared.links.Position.{Position}
use Rattle.bucket_ring.specs.declared.links.Position.TheVariants.{Tail, Head as AtHead, Before, After}
use Rattle.bucket_ring.specs.declared.links.RingHead.{RingHead}
use Rattle.bucket_ring.specs.declared.links.Links.{Links}
use Rattle.bucket_ring.specs.declared.slots.Slots.{Ghosts}
use Rattle.bucket_ring.specs.Lists.{upd, on, list_at, same, found, without}
use Rattle.bucket_ring.specs.Kept.{IsKept}
use Rattle.bucket_ring.specs.Laws.{same_name}
use Rattle.bucket_ring.specs.Spots.{placed}
use Rattle.bucket_ring.specs.Walks.{id_of, turned}
use Rattle.bucket_ring.specs.Links.{sentinel_ring, bucket_ring, named_in, IsSpot, target, behind_of, before_of, mark_of, at_of, bucket_of, head_of, ring_at, lists_of, AreLinked, IsLooseSlot, Relinked}
use Rattle.bucket_ring.specs.Links.{Refilled, Changed}
use Rattle.bucket_ring.proofs.Counted.{upd_on, upd_off}
use Rattle.bucket_ring.proofs.Shown.{some_is}
use Rattle.bucket_ring.proofs.Kept.{upd_as, there_at, lists_there, length_of, changed}
use Rattle.bucket_ring.proofs.Read.{place_of, spot_there}
use Rattle.bucket_ring.proofs.Linked.{some_count}
use Rattle.bucket_ring.proofs.Changes.{pair_is, on_some, shifted, links_counted}
use Rattle.bucket_ring.proofs.Short.{short_with}
use Rattle.bucket_ring.proofs.Rewritten.{link_kept, read_new, read_off, there_kept}
use Rattle.bucket_ring.proofs.Taken.{taken_linked, taken_lists, taken_places, taken_loose, taken_payload, put_linked, put_lists, put_places}

-- a value that is put back
upd_over : {X : Type 0} (f f2 : ℕ → X) (k : ℕ) (x y : X) → ((i : ℕ) → f2 i ≡ upd f k y i) → (j : ℕ) → upd f k x j ≡ upd f2 k x j
upd_over f f2 k x y e j =
    elim (cases_eq j k) [
      | inl here ↦ rw here (upd_on f k x ∙ sym (upd_on f2 k x))
      | inr ne ↦ upd_off f k x j ne ∙ sym (upd_off f2 k x j ne ∙ e j ∙ upd_off f k y j ne)
    ]

spot_as : (f g : BucketId → Option ℕ) (r : ℕ) (position : Position) → ((j : BucketId) → g j ≡ f j) → IsSpot f r position → IsSpot g r position
spot_as f g r Tail e is = tt
spot_as f g r AtHead e is = tt
spot_as f g r (Before at) e is = e at ∙ is
spot_as f g r (After at) e is = e at ∙ is

twice : (b : Bool) (x y z : Option ℕ) → (if b then x else if b then y else z) ≡ (if b then x else z)
twice true x y z = refl
twice false x y z = refl

module _ {T : Type 0} where
  -- nodes as what is read of them
  abbrev pub as_read : Ghosts (ℕ → Option (Node T)) T
  as_read = record { node = λ f k. f k; room = λ f. 0 }

pub target_as : (f g : ℕ → ℕ) (h : RingHead) (position : Position) → ((i : ℕ) → g i ≡ f i) → target g h position ≡ target f h position
target_as f g h Tail e = refl
target_as f g h AtHead e = e h.sentinel
target_as f g h (Before id) e = refl
target_as f g h (After id) e = e id.slot

module _ {T N : Type 0} {g : Ghosts N T} where
  -- the links as what is read of their nodes
  abbrev pub read_of : Links T N g → Links T (ℕ → Option (Node T)) as_read
  read_of s = record { nodes = λ k. g.node s.nodes k; mark = s.mark; heads = s.heads; slots = λ k. refl }

  -- the same, where the node in slot k has no bucket
  abbrev pub without_bucket : Links T N g → ℕ → Node T → Links T (ℕ → Option (Node T)) as_read
  without_bucket s k v = record { nodes = upd (λ j. g.node s.nodes j) k (Some (record v { ring = 0; load = Sentinel })); mark = s.mark; heads = s.heads; slots = λ k. refl }

  -- a bucket's slot has left its circle, and the ring has a bucket less
  pub record IsGone (s s2 : Links T N g) (from : ℕ) (id : BucketId) (h : RingHead) : Type 0 where
    pub linked : AreLinked s
    pub in_from : ring_at s id ≡ Some from
    pub head : head_of s from ≡ Some h
    pub links : Relinked s s2 (turned (behind_of s) (before_of s) id.slot id.slot) (turned (before_of s) (behind_of s) id.slot id.slot)
    pub heads : (n : ℕ) → head_of s2 n ≡ upd (head_of s) from (Some (record { sentinel = h.sentinel; count = h.count - 1 })) n

  module _ (s s2 : Links T N g) (from : ℕ) (id : BucketId) (h : RingHead) (gone : IsGone s s2 from id h) where
    place : (b : BucketId × T) × (bucket_of s id.slot ≡ Some b) × (same b.0 id ≡ true) × (at_of s id.slot ≡ Some from)
    place = place_of s gone.linked id from gone.in_from

    had : bucket_of s id.slot ≡ Some (id_of id.slot id.birth, place.0.1)
    had = place.1 ∙ ap Some (pair_is place.0 id place.0.1 (same_name place.0.0 id place.2) refl)

    pub still_there : is_some (g.node s2.nodes id.slot) ≡ true
    still_there = gone.links.room.there id.slot ∙ there_at s id.slot from place.3

    pub still_full : is_some (bucket_of s2 id.slot) ≡ true
    still_full = ap is_some (gone.links.buckets.bucket id.slot ∙ place.1)

    held : (v : Node T) × (g.node s2.nodes id.slot ≡ Some v)
    held = some_is (g.node s2.nodes id.slot) still_there

    -- the links as they would be if the bucket had been taken out
    abbrev mid : Links T (ℕ → Option (Node T)) as_read
    mid = without_bucket s2 id.slot held.0

    abbrev bare : Node T
    bare = record held.0 { ring = 0; load = Sentinel }

    mid_behind : (j : ℕ) → behind_of mid j ≡ behind_of s2 j
    unfolding behind_of
    mid_behind = link_kept (λ j. g.node s2.nodes j) mid.nodes id.slot held.0 bare held.1 (λ j. refl) (λ n. n.behind) refl

    mid_before : (j : ℕ) → before_of mid j ≡ before_of s2 j
    unfolding before_of
    mid_before = link_kept (λ j. g.node s2.nodes j) mid.nodes id.slot held.0 bare held.1 (λ j. refl) (λ n. n.before) refl

    mid_bucket : (j : ℕ) → bucket_of mid j ≡ upd (bucket_of s2) id.slot None j
    unfolding bucket_of
    mid_bucket = read_new (λ j. g.node s2.nodes j) mid.nodes id.slot held.0 bare held.1 (λ j. refl) named_in None refl

    mid_at : (j : ℕ) → at_of mid j ≡ upd (at_of s2) id.slot None j
    unfolding at_of
    mid_at = read_new (λ j. g.node s2.nodes j) mid.nodes id.slot held.0 bare held.1 (λ j. refl) (λ j n. bucket_ring n) None refl

    mid_mark : (j : ℕ) → j ≢ id.slot → mark_of mid j ≡ mark_of s2 j
    unfolding mark_of
    mid_mark = read_off (λ j. g.node s2.nodes j) mid.nodes id.slot held.0 bare held.1 (λ j. refl) (λ j n. sentinel_ring n)

    mid_there : (j : ℕ) → is_some (mid.nodes j) ≡ is_some (g.node s2.nodes j)
    mid_there = there_kept (λ j. g.node s2.nodes j) mid.nodes id.slot held.0 bare held.1 (λ j. refl)

    change : Changed (read_of s) mid id.slot id.slot from None None (record { sentinel = h.sentinel; count = h.count - 1 })
    unfolding behind_of before_of mark_of at_of bucket_of head_of
    change = record {
      behind = λ j. mid_behind j ∙ gone.links.behind j;
      before = λ j. mid_before j ∙ gone.links.before j;
      bucket_new = λ j. mid_bucket j ∙ upd_as id.slot None j (bucket_of s2) (bucket_of s) gone.links.buckets.bucket;
      at = λ j. mid_at j ∙ upd_as id.slot None j (at_of s2) (at_of s) gone.links.buckets.at;
      mark = λ j ne. mid_mark j ne ∙ gone.links.buckets.mark j;
      heads = gone.heads;
      room = record { there = λ j. mid_there j ∙ gone.links.room.there j; room = λ n e. e };
    }

    less : h.count - 1 + 1 ≡ h.count
    less = let some : 1 ≤ h.count = some_count (behind_of s) (before_of s) (mark_of s) (at_of s) (head_of s) gone.linked id.slot from h gone.head place.3 in omega arith

    mid_linked : AreLinked mid
    unfolding behind_of before_of mark_of at_of bucket_of head_of ring_at
    mid_linked = taken_linked (read_of s) mid from (h.count - 1) id id.birth place.0.1 h gone.linked gone.in_from gone.head less had change

    mid_lists : (n : ℕ) → lists_of mid n ≡ on from (without id) (lists_of s) n
    unfolding behind_of before_of mark_of at_of bucket_of head_of ring_at lists_of
    mid_lists = taken_lists (read_of s) mid from (h.count - 1) id id.birth place.0.1 h gone.linked gone.in_from gone.head less had change

    mid_places : (j : BucketId) → ring_at mid j ≡ (if same id j then None else ring_at s j)
    unfolding behind_of before_of mark_of at_of bucket_of head_of ring_at
    mid_places = taken_places (read_of s) mid from (h.count - 1) id id.birth place.0.1 h gone.linked gone.in_from gone.head less had change

    mid_loose : IsLooseSlot mid id.slot
    unfolding behind_of before_of mark_of at_of bucket_of head_of ring_at
    mid_loose = taken_loose (read_of s) mid from (h.count - 1) id id.birth place.0.1 h gone.linked gone.in_from gone.head less had change

    mid_payload : found id (list_at (lists_of s) from) ≡ Some place.0.1
    unfolding behind_of before_of mark_of at_of bucket_of head_of ring_at lists_of
    mid_payload = taken_payload (read_of s) mid from (h.count - 1) id id.birth place.0.1 h gone.linked gone.in_from gone.head less had change

    pub still_forth : (j : ℕ) → behind_of s2 (before_of s2 j) ≡ j
    still_forth j = sym (mid_behind (before_of s2 j)) ∙ ap (behind_of mid) (sym (mid_before j)) ∙ mid_linked.forth j

    pub still_back : (j : ℕ) → before_of s2 (behind_of s2 j) ≡ j
    still_back j = sym (mid_before (behind_of s2 j)) ∙ ap (before_of mid) (sym (mid_behind j)) ∙ mid_linked.back j

    pub head_left : (ring : ℕ) → is_some (lists_of s ring) ≡ true → is_some (head_of s2 ring) ≡ true
    unfolding head_of
    head_left ring there = sym (lists_there mid ring) ∙ on_some from (without id) (lists_of s) (lists_of mid) mid_lists ring there

    -- and comes into another
    module _ (ring next : ℕ) (position : Position) (h2 : RingHead) (head2 : head_of s2 ring ≡ Some h2) (is : IsSpot (λ j. if same id j then None else ring_at s j) ring position)
        (kept : IsKept (ring_at s) (lists_of s) next) where
      head_mid : head_of mid ring ≡ Some h2
      unfolding head_of
      head_mid = head2

      is_mid : IsSpot (ring_at mid) ring position
      is_mid = spot_as (λ j. if same id j then None else ring_at s j) (ring_at mid) ring position mid_places is

      few : length (list_at (lists_of mid) ring) + 1 < 2 ^ 64
      few =
          let most : length (list_at (lists_of mid) ring) + 1 ≤ next = short_with (ring_at s) (ring_at mid) (lists_of s)
          (lists_of mid) next ring id place.0.1 kept (ap is_some gone.in_from) mid_places (λ j. links_counted mid mid_linked j ring) in
          omega (arith, most, kept.limit)

      pub one_fits : h2.count + 1 < 2 ^ 64
      one_fits = omega (arith, few, length_of mid ring h2 mid_linked head_mid)

      pub target_there : (a : ℕ) → a ≡ target (behind_of s2) h2 position → is_some (g.node s2.nodes a) ≡ true
      target_there a e =
          ap (λ (k : ℕ). is_some (g.node s2.nodes k)) (e ∙ sym (target_as (behind_of s2) (behind_of mid) h2 position mid_behind)) ∙ sym (mid_there (target (behind_of mid) h2 position))
          ∙ spot_there mid mid_linked ring h2 position head_mid is_mid

      module _ (s3 t : Links T N g) (renamed : Refilled s2 s3 id.slot (bucket_of s2 id.slot) (Some ring)) (a : ℕ) (a_is : a ≡ target (behind_of s2) h2 position)
          (entered : Relinked s3 t (turned (behind_of s3) (before_of s3) a id.slot) (turned (before_of s3) (behind_of s3) id.slot a))
          (heads_in : (n : ℕ) → head_of t n ≡ upd (head_of s2) ring (Some (record { sentinel = h2.sentinel; count = h2.count + 1 })) n) where
        change_in : Changed mid (read_of t) id.slot a ring (Some (id_of id.slot id.birth, place.0.1)) (Some ring) (record { sentinel = h2.sentinel; count = h2.count + 1 })
        unfolding behind_of before_of mark_of at_of bucket_of head_of
        change_in = changed mid (read_of s3) (read_of t) id.slot a ring (Some (id_of id.slot id.birth, place.0.1)) (Some ring) (record { sentinel = h2.sentinel; count = h2.count + 1 })
            (record {
              bucket_new = λ j. renamed.bucket_new j
                  ∙ ap (λ (o : Option (BucketId × T)). upd (bucket_of s2) id.slot o j) (gone.links.buckets.bucket id.slot ∙ had)
                  ∙ upd_over (bucket_of s2) (bucket_of mid) id.slot (Some (id_of id.slot id.birth, place.0.1)) None mid_bucket j;
              at = λ j. renamed.at j ∙ upd_over (at_of s2) (at_of mid) id.slot (Some ring) None mid_at j;
              mark = λ j ne. renamed.mark j ne ∙ sym (mid_mark j ne);
              links = record { behind = λ j. renamed.links.behind j ∙ sym (mid_behind j); before = λ j. renamed.links.before j ∙ sym (mid_before j) };
              room = record { there = λ j. renamed.room.there j ∙ sym (mid_there j); room = λ n e. e };
            })
            (record {
              behind = entered.behind;
              before = entered.before;
              buckets = record { mark = entered.buckets.mark; at = entered.buckets.at; bucket = entered.buckets.bucket };
              room = record { there = entered.room.there; room = λ n e. e };
            })
            heads_in

        all_in : Changed mid (read_of t) id.slot (target (behind_of mid) h2 position) ring (Some (id_of id.slot id.birth, place.0.1)) (Some ring)
            (record { sentinel = h2.sentinel; count = h2.count + 1 })
        all_in = subst (λ (k : ℕ). Changed mid (read_of t) id.slot k ring (Some (id_of id.slot id.birth, place.0.1)) (Some ring)
            (record { sentinel = h2.sentinel; count = h2.count + 1 }))
            (a_is ∙ sym (target_as (behind_of s2) (behind_of mid) h2 position mid_behind)) change_in

        carried_linked : AreLinked t
        unfolding behind_of before_of mark_of at_of head_of
        carried_linked = put_linked mid (read_of t) id.slot ring position id.birth place.0.1 h2 mid_linked mid_loose is_mid head_mid few all_in

        carried_lists : (n : ℕ) (x : T) → found id (list_at (lists_of s) from) ≡ Some x → lists_of t n ≡ on ring (placed position ((id, x) ∷ [])) (on from (without id) (lists_of s)) n
        unfolding behind_of bucket_of head_of lists_of
        carried_lists n x is_x =
            shifted (lists_of s) (lists_of mid) (lists_of t) from ring n position id x place.0.1 id.birth refl mid_payload is_x mid_lists
            (put_lists mid (read_of t) id.slot ring position id.birth place.0.1 h2 mid_linked mid_loose is_mid head_mid few all_in)

        carried_places : (j : BucketId) → ring_at t j ≡ (if same id j then Some ring else ring_at s j)
        unfolding bucket_of at_of ring_at
        carried_places j =
            put_places mid (read_of t) id.slot ring position id.birth place.0.1 h2 mid_linked mid_loose is_mid head_mid few all_in j
            ∙ ap (λ (o : Option ℕ). if same id j then Some ring else o) (mid_places j) ∙ twice (same id j) (Some ring) None (ring_at s j)

        pub carried : AreLinked t × ((n : ℕ) (x : T) → found id (list_at (lists_of s) from) ≡ Some x → lists_of t n ≡ on ring (placed position ((id, x) ∷ [])) (on from (without id) (lists_of s)) n)
            × ((j : BucketId) → ring_at t j ≡ (if same id j then Some ring else ring_at s j))
        carried = (carried_linked, carried_lists, carried_places)
