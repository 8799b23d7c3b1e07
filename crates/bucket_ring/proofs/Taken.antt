-- The rings after a bucket is taken out, and after one is put in.
use Rattle.std.proofs.Common.{◌≡◌, ◌≢◌, ℕ, ◌+◌, ◌^◌, ◌<◌, ◌≤◌, Bool, true, false, if◌then◌else◌, Option, None, Some, List, [], ◌∷◌, ◌++◌, drop, length, refl, ap, sym, ◌∙◌, arith, append_assoc}
use Rattle.std.proofs.lemmas.Option.{same_Some}
use Rattle.bucket_ring.specs.declared.names.BucketId.{BucketId}
use Rattle.bucket_ring.specs.declared.links.Position.{Position}
use Rattle.bucket_ring.specs.declared.links.RingHead.{RingHead}
use Rattle.bucket_ring.specs.declared.links.Links.{Links}
use Rattle.bucket_ring.specs.declared.slots.Slots.{Ghosts}
use Rattle.bucket_ring.specs.Lists.{on, list_at, same, found, without, front, rest, payload_of}
use Rattle.bucket_ring.specs.Spots.{placed}
use Rattle.bucket_ring.specs.Laws.{same_name, same_birth}
use Rattle.bucket_ring.specs.Walks.{id_of, count, slots}
use Rattle.bucket_ring.specs.Links.{with_first, listed, is_named, ring_named, IsSpot, target, behind_of, before_of, mark_of, at_of, bucket_of, head_of, ring_at, lists_of, AreLinked, IsLooseSlot}
use Rattle.bucket_ring.specs.Links.{Changed}
use Rattle.bucket_ring.proofs.Counted.{upd_on, upd_off}
use Rattle.bucket_ring.proofs.Walks.{count_here, count_append, turned_here}
use Rattle.bucket_ring.proofs.Linked.{own_ring, no_bucket, OneRing, one_taken, one_put, still_linked, by_ring, sentinel_off}
use Rattle.bucket_ring.proofs.Shown.{listed_append, listed_same, stands_in, list_here}
use Rattle.bucket_ring.proofs.Parted.{one_list, one_ring_at, IsParted, parted, spot_elsewhere, spot_before}
use Rattle.bucket_ring.proofs.Kept.{shown_of, there_at, length_of}

module _ {T N : Type 0} {g : Ghosts N T} where
  -- a bucket is taken out
  module _ (s t : Links T N g) (ring m : ℕ) (id : BucketId) (birth : ℕ) (x : T) (h : RingHead) (linked : AreLinked s) (in_ring : ring_at s id ≡ Some ring) (head : head_of s ring ≡ Some h)
      (less : m + 1 ≡ h.count) (had : bucket_of s id.slot ≡ Some (id_of id.slot birth, x))
      (change : Changed s t id.slot id.slot ring None None (record { sentinel = h.sentinel; count = m })) where
    abbrev out : RingHead
    out = record { sentinel = h.sentinel; count = m }

    view : (c : BucketId × T) × (xs : List ℕ) × (ys : List ℕ) × (bucket_of s id.slot ≡ Some c) × (same c.0 id ≡ true) × (at_of s id.slot ≡ Some ring)
        × (slots (behind_of s) (Some h) ≡ xs ++ id.slot ∷ ys) × (count id.slot xs ≡ 0)
        × (front id (listed (bucket_of s) (slots (behind_of s) (Some h))) ≡ listed (bucket_of s) xs) × (rest id (listed (bucket_of s) (slots (behind_of s) (Some h))) ≡ c ∷ listed (bucket_of s) ys)
    unfolding ring_at
    view = stands_in (bucket_of s) (mark_of s) (at_of s) (shown_of s) (behind_of s) (before_of s) (head_of s) linked id ring h head in_ring

    one : OneRing (behind_of s) (behind_of t) (before_of s) (before_of t) (mark_of s) (mark_of t) (at_of s) (at_of t) (head_of s) (head_of t) id.slot ring id.slot (behind_of s id.slot) None h out
        (view.1 ++ view.2)
    one = one_taken (behind_of s) (behind_of t) (before_of s) (before_of t) (mark_of s) (mark_of t) (at_of s) (at_of t) (head_of s)
        (head_of t) id.slot ring id.slot h out linked head change.heads refl change.mark change.behind change.before refl view.5 less change.at view.1 view.2 view.6

    none_behind : count id.slot view.2 ≡ 0
    none_behind =
        let all : count id.slot view.1 + count id.slot (id.slot ∷ view.2) ≡ 1 = sym (count_append id.slot view.1 (id.slot ∷ view.2)) ∙ ap (count id.slot) (sym view.6)
        ∙ own_ring (behind_of s) (before_of s) (mark_of s) (at_of s) (head_of s) linked id.slot ring h head view.5 in
        omega (arith, all, count_here id.slot view.2)

    other_buckets : (j : ℕ) → j ≢ id.slot → bucket_of t j ≡ bucket_of s j
    other_buckets j ne = change.bucket_new j ∙ upd_off (bucket_of s) id.slot None j ne

    pub taken_linked : AreLinked t
    taken_linked = still_linked (behind_of s) (behind_of t) (before_of s) (before_of t) (mark_of s) (mark_of t) (at_of s) (at_of t) (head_of s) (head_of t) id.slot ring id.slot
        (behind_of s id.slot) None h out (view.1 ++ view.2) one

    pub taken_lists : (n : ℕ) → lists_of t n ≡ on ring (without id) (lists_of s) n
    unfolding lists_of
    taken_lists =
        one_list (behind_of s) (behind_of t) (before_of s) (before_of t) (mark_of s) (mark_of t) (at_of s) (at_of t) (head_of s) (head_of t) id.slot ring id.slot (behind_of s id.slot) None h out
        (view.1 ++ view.2) one (bucket_of s) (bucket_of t) other_buckets (without id)
        (listed_append (bucket_of t) view.1 view.2
        ∙ ap (λ (bs : List (BucketId × T)). bs ++ listed (bucket_of t) view.2) (listed_same (bucket_of s) (bucket_of t) id.slot view.1 other_buckets view.7)
        ∙ ap (λ (bs : List (BucketId × T)). listed (bucket_of s) view.1 ++ bs) (listed_same (bucket_of s) (bucket_of t) id.slot view.2 other_buckets none_behind)
        ∙ sym (ap (λ (bs : List (BucketId × T)). bs ++ drop 1 (rest id (listed (bucket_of s) (slots (behind_of s) (Some h))))) view.8
        ∙ ap (λ (bs : List (BucketId × T)). listed (bucket_of s) view.1 ++ drop 1 bs) view.9))

    pub taken_places : (j : BucketId) → ring_at t j ≡ (if same id j then None else ring_at s j)
    unfolding ring_at
    taken_places = one_ring_at (bucket_of s) (bucket_of t) (at_of s) (at_of t) id None other_buckets change.at in_its_slot where
      in_its_slot : (j : BucketId) → j.slot ≡ id.slot → ring_named (bucket_of t) (at_of t) j ≡ (if same id j then None else ring_named (bucket_of s) (at_of s) j)
      in_its_slot j e =
          ap (λ (o : Option (BucketId × T)). if is_named j o then at_of t j.slot else None) (ap (bucket_of t) e ∙ change.bucket_new id.slot ∙ upd_on (bucket_of s) id.slot None)
          ∙ go (same id j) refl where
            go : (b : Bool) → same id j ≡ b → None ≡ (if b then None else ring_named (bucket_of s) (at_of s) j)
            go true is = refl
            go false is = sym (ap (λ (o : Option (BucketId × T)). if is_named j o then at_of s j.slot else None) (ap (bucket_of s) e ∙ view.3)
                ∙ ap (λ (b : Bool). if b then at_of s j.slot else None) (ap (λ (i : BucketId). same i j) (same_name view.0.0 id view.4) ∙ is))

    pub taken_loose : IsLooseSlot t id.slot
    taken_loose = record {
      there = change.room.there id.slot ∙ there_at s id.slot ring view.5;
      itself = change.behind id.slot ∙ turned_here (behind_of s) (before_of s) linked.back linked.forth id.slot id.slot;
      nowhere = change.at id.slot ∙ upd_on (at_of s) id.slot None;
      apart = by_ring (behind_of s) (behind_of t) (before_of s) (before_of t) (mark_of s) (mark_of t) (at_of s) (at_of t) (head_of s) (head_of t) id.slot ring id.slot
          (behind_of s id.slot) None h out (view.1 ++ view.2) one
          (λ n g. g.sentinel ≢ id.slot) (sentinel_off (behind_of s) (behind_of t) (before_of s) (before_of t) (mark_of s) (mark_of t) (at_of s) (at_of t) (head_of s)
          (head_of t) id.slot ring id.slot (behind_of s id.slot) None h out (view.1 ++ view.2) one)
          (λ n g e ne. one.bucket n g e);
    }

    -- what was taken out
    whole : list_at (lists_of s) ring ≡ listed (bucket_of s) (slots (behind_of s) (Some h))
    unfolding lists_of
    whole = list_here (bucket_of s) (mark_of s) (at_of s) (shown_of s) (behind_of s) (before_of s) (head_of s) linked ring
        ∙ ap (λ (o : Option RingHead). listed (bucket_of s) (slots (behind_of s) o)) head

    is_it : (id_of id.slot birth, x) ≡ view.0
    is_it = same_Some (id_of id.slot birth, x) view.0 (sym had ∙ view.3)

    pub taken_payload : found id (list_at (lists_of s) ring) ≡ Some x
    taken_payload = ap (found id) whole ∙ ap payload_of view.9 ∙ ap (λ (c : BucketId × T). Some c.1) (sym is_it)

    pub taken_birth : birth ≡ id.birth
    taken_birth = ap (λ (c : BucketId × T). c.0.birth) is_it ∙ same_birth view.0.0 id view.4

  -- a bucket is put in
  module _ (s t : Links T N g) (slot ring : ℕ) (position : Position) (birth : ℕ) (x : T) (h : RingHead) (linked : AreLinked s) (loose : IsLooseSlot s slot) (is : IsSpot (ring_at s) ring position)
      (head : head_of s ring ≡ Some h) (few : length (list_at (lists_of s) ring) + 1 < 2 ^ 64)
      (change : Changed s t slot (target (behind_of s) h position) ring (Some (id_of slot birth, x)) (Some ring) (record { sentinel = h.sentinel; count = h.count + 1 })) where
    abbrev longer : RingHead
    longer = record { sentinel = h.sentinel; count = h.count + 1 }

    parts : (xs : List ℕ) × (ys : List ℕ) × IsParted (bucket_of s) (mark_of s) (at_of s) (shown_of s) (behind_of s) (before_of s) (head_of s) linked ring h position xs ys
    unfolding ring_at
    parts = parted (bucket_of s) (mark_of s) (at_of s) (shown_of s) (behind_of s) (before_of s) (head_of s) linked ring h position head is

    once : (count (target (behind_of s) h position) parts.0 ≡ 0) × (count (target (behind_of s) h position) parts.1 ≤ 1)
    once = spot_before (bucket_of s) (mark_of s) (at_of s) (shown_of s) (behind_of s) (before_of s) (head_of s) linked ring h
        (target (behind_of s) h position) parts.0 parts.1 head parts.2.whole parts.2.from

    one_in : OneRing (behind_of s) (behind_of t) (before_of s) (before_of t) (mark_of s) (mark_of t) (at_of s) (at_of t) (head_of s) (head_of t) slot ring (target (behind_of s) h position)
        (behind_of s slot) (Some ring) h longer (parts.0 ++ slot ∷ parts.1)
    one_in =
        one_put (behind_of s) (behind_of t) (before_of s) (before_of t) (mark_of s) (mark_of t) (at_of s) (at_of t) (head_of s) (head_of t) slot ring
        (target (behind_of s) h position) h longer linked head change.heads refl change.mark change.behind change.before loose.itself loose.nowhere loose.apart refl
        (omega (arith, few, length_of s ring h linked head)) change.at parts.0 parts.1 parts.2.whole parts.2.to parts.2.from
        (spot_elsewhere (bucket_of s) (mark_of s) (at_of s) (shown_of s) (behind_of s) (before_of s) (head_of s) linked ring h
        (target (behind_of s) h position) parts.0 parts.1 head parts.2.whole parts.2.from) once.0 once.1

    others : (j : ℕ) → j ≢ slot → bucket_of t j ≡ bucket_of s j
    others j ne = change.bucket_new j ∙ upd_off (bucket_of s) slot (Some (id_of slot birth, x)) j ne

    absent : count slot parts.0 + count slot parts.1 ≡ 0
    absent = sym (count_append slot parts.0 parts.1) ∙ ap (count slot) (sym parts.2.whole)
        ∙ no_bucket (behind_of s) (before_of s) (mark_of s) (at_of s) (head_of s) linked slot ring h head loose.nowhere

    pub put_linked : AreLinked t
    put_linked = still_linked (behind_of s) (behind_of t) (before_of s) (before_of t) (mark_of s) (mark_of t) (at_of s) (at_of t) (head_of s) (head_of t) slot ring (target (behind_of s) h position)
        (behind_of s slot) (Some ring) h longer (parts.0 ++ slot ∷ parts.1) one_in

    pub put_lists : (n : ℕ) → lists_of t n ≡ on ring (placed position ((id_of slot birth, x) ∷ [])) (lists_of s) n
    unfolding lists_of
    put_lists =
        let before : count slot parts.0 ≡ 0 = omega (arith, absent) in
        let behind : count slot parts.1 ≡ 0 = omega (arith, absent) in
        one_list (behind_of s) (behind_of t) (before_of s) (before_of t) (mark_of s) (mark_of t) (at_of s) (at_of t) (head_of s) (head_of t) slot ring (target (behind_of s) h position)
        (behind_of s slot) (Some ring) h longer (parts.0 ++ slot ∷ parts.1) one_in (bucket_of s) (bucket_of t) others (placed position ((id_of slot birth, x) ∷ []))
        (listed_append (bucket_of t) parts.0 (slot ∷ parts.1)
        ∙ ap (λ (bs : List (BucketId × T)). bs ++ listed (bucket_of t) (slot ∷ parts.1)) (listed_same (bucket_of s) (bucket_of t) slot parts.0 others before)
        ∙ ap (λ (o : Option (BucketId × T)). listed (bucket_of s) parts.0 ++ with_first o (listed (bucket_of t) parts.1))
        (change.bucket_new slot ∙ upd_on (bucket_of s) slot (Some (id_of slot birth, x)))
        ∙ ap (λ (bs : List (BucketId × T)). listed (bucket_of s) parts.0 ++ (id_of slot birth, x) ∷ bs) (listed_same (bucket_of s) (bucket_of t) slot parts.1 others behind)
        ∙ sym (parts.2.put ((id_of slot birth, x) ∷ []) ∙ append_assoc (listed (bucket_of s) parts.0) ((id_of slot birth, x) ∷ []) (listed (bucket_of s) parts.1)))

    pub put_places : (j : BucketId) → ring_at t j ≡ (if same (id_of slot birth) j then Some ring else ring_at s j)
    unfolding ring_at
    put_places = one_ring_at (bucket_of s) (bucket_of t) (at_of s) (at_of t) (id_of slot birth) (Some ring) others change.at in_its_slot where
      in_its_slot : (j : BucketId) → j.slot ≡ slot → ring_named (bucket_of t) (at_of t) j ≡ (if same (id_of slot birth) j then Some ring else ring_named (bucket_of s) (at_of s) j)
      in_its_slot j e =
          ap (λ (o : Option (BucketId × T)). if is_named j o then at_of t j.slot else None) (ap (bucket_of t) e ∙ change.bucket_new slot ∙ upd_on (bucket_of s) slot (Some (id_of slot birth, x)))
          ∙ go (same (id_of slot birth) j) where
            nowhere : (b : Bool) → (if b then at_of s j.slot else None) ≡ None
            nowhere true = ap (at_of s) e ∙ loose.nowhere
            nowhere false = refl

            go : (b : Bool) → (if b then at_of t j.slot else None) ≡ (if b then Some ring else ring_named (bucket_of s) (at_of s) j)
            go true = ap (at_of t) e ∙ change.at slot ∙ upd_on (at_of s) slot (Some ring)
            go false = sym (nowhere (is_named j (bucket_of s j.slot)))
