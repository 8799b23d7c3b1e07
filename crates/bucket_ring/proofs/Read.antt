-- What is read from the rings, and rings that come and end.
use Rattle.std.proofs.Common.{◌≡◌, ◌≢◌, ℕ, ◌≤◌, true, false, Option, None, Some, is_some, List, ◌∷◌, ◌++◌, drop, refl, ap, sym, subst, ◌∙◌, arith, inl, inr}
use Rattle.std.proofs.Math.Path.{fun_ext}
use Rattle.std.specs.Option.{option_map}
use Rattle.bucket_ring.specs.declared.names.BucketId.{BucketId}
use Rattle.bucket_ring.specs.declared.links.Position.{Position}
use Rattle.bucket_ring.specs.declared.links.RingHead.{RingHead}
use Rattle.bucket_ring.specs.declared.links.Links.{Links}
use Rattle.bucket_ring.specs.declared.slots.Slots.{Ghosts}
use Rattle.bucket_ring.specs.Lists.{list_at, same, found, front, rest, first_of, payload_of}
use Rattle.bucket_ring.specs.Kept.{once_in}
use Rattle.bucket_ring.specs.Walks.{count, slots, SlotsLinked}
use Rattle.bucket_ring.specs.Links.{listed, ring_named, lists_by, IsSpot, target, behind_of, before_of, mark_of, at_of, bucket_of, head_of, ring_at, lists_of, AreLinked, KeepsLinks}
use Rattle.bucket_ring.proofs.Walks.{Walk, count_append, count_fewer, walk_apart}
use Rattle.bucket_ring.proofs.Linked.{ring_walk, counted_in, head_there}
use Rattle.bucket_ring.proofs.Shown.{head_is, in_slot, stands_in, list_here, first_listed}
use Rattle.bucket_ring.proofs.Parted.{parted, on_spot}
use Rattle.bucket_ring.proofs.Kept.{shown_of, there_at, there_mark}

-- links that are the same in all but marks of slots that are no sentinels
pub linked_as : (f f2 b b2 : ℕ → ℕ) (mark mark2 at at2 : ℕ → Option ℕ) (heads heads2 : ℕ → Option RingHead) → f2 ≡ f → b2 ≡ b → at2 ≡ at → heads2 ≡ heads
    → ((r : ℕ) (h : RingHead) → heads r ≡ Some h → mark2 h.sentinel ≡ mark h.sentinel) → SlotsLinked f b mark at heads → SlotsLinked f2 b2 mark2 at2 heads2
linked_as f f2 b b2 mark mark2 at at2 heads heads2 e_f e_b e_at e_heads marks linked =
    subst (λ (x : ℕ → ℕ). SlotsLinked x b2 mark2 at2 heads2) (sym e_f)
    (subst (λ (x : ℕ → ℕ). SlotsLinked f x mark2 at2 heads2) (sym e_b)
    (subst (λ (x : ℕ → Option ℕ). SlotsLinked f b mark2 x heads2) (sym e_at)
    (subst (λ (x : ℕ → Option RingHead). SlotsLinked f b mark2 at x) (sym e_heads) (record {
      back = linked.back;
      forth = linked.forth;
      ends = linked.ends;
      marked = λ r h e. marks r h e ∙ linked.marked r h e;
      apart = linked.apart;
      few = linked.few;
      counted = linked.counted;
    }))))

module _ {T N : Type 0} {g : Ghosts N T} where
  module _ (s : Links T N g) (linked : AreLinked s) where
    read_ring : (r : ℕ) (h : RingHead) → head_of s r ≡ Some h → list_at (lists_of s) r ≡ listed (bucket_of s) (slots (behind_of s) (Some h))
    unfolding lists_of
    read_ring r h e = list_here (bucket_of s) (mark_of s) (at_of s) (shown_of s) (behind_of s) (before_of s) (head_of s) linked r
        ∙ ap (λ (o : Option RingHead). listed (bucket_of s) (slots (behind_of s) o)) e

    within : (r : ℕ) (h : RingHead) → head_of s r ≡ Some h → (j : ℕ) → count j (slots (behind_of s) (Some h)) ≤ once_in r (at_of s j)
    within r h e j = omega (arith, counted_in (behind_of s) (before_of s) (mark_of s) (at_of s) (head_of s) linked j r h e)

    pub first_is : (r : ℕ) (h : RingHead) → head_of s r ≡ Some h → first_of (list_at (lists_of s) r) ≡ option_map (λ (b : BucketId × T). b.0) (bucket_of s (behind_of s h.sentinel))
    first_is r h e =
        ap first_of (read_ring r h e) ∙ first_listed (bucket_of s) (mark_of s) (at_of s) (shown_of s) (behind_of s) (before_of s) (head_of s) linked (behind_of s h.sentinel)
        (slots (behind_of s) (Some h)) r h e (within r h e)
        (ring_walk (behind_of s) (before_of s) (mark_of s) (at_of s) (head_of s) linked r h e)

    -- where a bucket lies, and the head of its ring
    pub place_of : (id : BucketId) (r : ℕ) → ring_at s id ≡ Some r → (b : BucketId × T) × (bucket_of s id.slot ≡ Some b) × (same b.0 id ≡ true) × (at_of s id.slot ≡ Some r)
    unfolding ring_at
    place_of id r e = in_slot (bucket_of s) (mark_of s) (at_of s) (shown_of s) id r e

    pub head_of_bucket : (id : BucketId) (r : ℕ) → ring_at s id ≡ Some r → (h : RingHead) × (head_of s r ≡ Some h)
    head_of_bucket id r e = head_is (head_of s r) (head_there (behind_of s) (before_of s) (mark_of s) (at_of s) (head_of s) linked id.slot r (place_of id r e).3)

    pub view_of : (id : BucketId) (r : ℕ) (h : RingHead) → head_of s r ≡ Some h → ring_at s id ≡ Some r
        → (c : BucketId × T) × (xs : List ℕ) × (ys : List ℕ) × (bucket_of s id.slot ≡ Some c) × (same c.0 id ≡ true) × (at_of s id.slot ≡ Some r)
        × (slots (behind_of s) (Some h) ≡ xs ++ id.slot ∷ ys) × (count id.slot xs ≡ 0)
        × (front id (listed (bucket_of s) (slots (behind_of s) (Some h))) ≡ listed (bucket_of s) xs) × (rest id (listed (bucket_of s) (slots (behind_of s) (Some h))) ≡ c ∷ listed (bucket_of s) ys)
    unfolding ring_at
    view_of id r h e in_r = stands_in (bucket_of s) (mark_of s) (at_of s) (shown_of s) (behind_of s) (before_of s) (head_of s) linked id r h e in_r

    pub next_is : (id : BucketId) (r : ℕ) → ring_at s id ≡ Some r → first_of (drop 1 (rest id (list_at (lists_of s) r))) ≡ option_map (λ (b : BucketId × T). b.0) (bucket_of s (behind_of s id.slot))
    next_is id r in_r =
        let h = head_of_bucket id r in_r in
        let w = view_of id r h.0 h.1 in_r in
        let walk : Walk (behind_of s) (behind_of s h.0.sentinel) (w.1 ++ id.slot ∷ w.2) h.0.sentinel =
        subst (λ (ks : List ℕ). Walk (behind_of s) (behind_of s h.0.sentinel) ks h.0.sentinel) w.6 (ring_walk (behind_of s) (before_of s) (mark_of s) (at_of s) (head_of s) linked r h.0 h.1) in
        ap (λ (bs : List (BucketId × T)). first_of (drop 1 (rest id bs))) (read_ring r h.0 h.1) ∙ ap (λ (bs : List (BucketId × T)). first_of (drop 1 bs)) w.9
        ∙ first_listed (bucket_of s) (mark_of s) (at_of s) (shown_of s) (behind_of s) (before_of s) (head_of s) linked (behind_of s id.slot) w.2 r h.0 h.1
        (λ j. omega (arith, within r h.0 h.1 j, ap (count j) w.6, count_append j w.1 (id.slot ∷ w.2), count_fewer id.slot j w.2))
        (walk_apart (behind_of s) (behind_of s h.0.sentinel) w.1 id.slot w.2 h.0.sentinel walk).1

    pub payload_is : (id : BucketId) (r : ℕ) → ring_at s id ≡ Some r → found id (list_at (lists_of s) r) ≡ option_map (λ (b : BucketId × T). b.1) (bucket_of s id.slot)
    payload_is id r in_r =
        let h = head_of_bucket id r in_r in
        let w = view_of id r h.0 h.1 in_r in
        ap (found id) (read_ring r h.0 h.1) ∙ ap payload_of w.9 ∙ sym (ap (option_map (λ (b : BucketId × T). b.1)) w.3)

    -- the slot at a spot is there
    pub spot_there : (r : ℕ) (h : RingHead) (position : Position) → head_of s r ≡ Some h → IsSpot (ring_at s) r position → is_some (g.node s.nodes (target (behind_of s) h position)) ≡ true
    unfolding ring_at
    spot_there r h position e is =
        let p = parted (bucket_of s) (mark_of s) (at_of s) (shown_of s) (behind_of s) (before_of s) (head_of s) linked r h position e is in
        elim (on_spot (bucket_of s) (mark_of s) (at_of s) (shown_of s) (behind_of s) (before_of s) (head_of s) linked r h (target (behind_of s) h position) p.0 p.1 e p.2.whole p.2.from) [
          | inl here ↦ ap (λ (k : ℕ). is_some (g.node s.nodes k)) here.0 ∙ there_mark s h.sentinel r (linked.marked r h e)
          | inr here ↦ there_at s (target (behind_of s) h position) r here.0
        ]

  -- nothing that is read changes
  pub same_all : (s t : Links T N g) → KeepsLinks s t → ((j : ℕ) → at_of t j ≡ at_of s j) → ((j : ℕ) → bucket_of t j ≡ bucket_of s j) → ((n : ℕ) → head_of t n ≡ head_of s n)
      → ((r : ℕ) (h : RingHead) → head_of s r ≡ Some h → mark_of t h.sentinel ≡ mark_of s h.sentinel) → AreLinked s
      → AreLinked t × ((n : ℕ) → lists_of t n ≡ lists_of s n) × ((id : BucketId) → ring_at t id ≡ ring_at s id)
  unfolding lists_of ring_at
  same_all s t links at bucket heads marks linked =
      let f = fun_ext links.behind in
      let e_heads = fun_ext heads in
      let e_bucket = fun_ext bucket in (
        linked_as (behind_of s) (behind_of t) (before_of s) (before_of t) (mark_of s) (mark_of t) (at_of s) (at_of t) (head_of s) (head_of t) f (fun_ext links.before)
            (fun_ext at) e_heads marks linked,
        λ n. ap (λ (x : ℕ → ℕ). lists_by x (bucket_of t) (head_of t) n) f ∙ ap (λ (x : ℕ → Option (BucketId × T)). lists_by (behind_of s) x (head_of t) n) e_bucket
            ∙ ap (λ (x : ℕ → Option RingHead). lists_by (behind_of s) (bucket_of s) x n) e_heads,
        λ id. ap (λ (x : ℕ → Option (BucketId × T)). ring_named x (at_of t) id) e_bucket ∙ ap (λ (x : ℕ → Option ℕ). ring_named (bucket_of s) x id) (fun_ext at),
      )

  -- a slot where nothing is
  pub nothing_there : (s : Links T N g) (k : ℕ) → g.node s.nodes k ≡ None → (behind_of s k ≡ k) × (mark_of s k ≡ None) × (at_of s k ≡ None)
  unfolding behind_of mark_of at_of
  nothing_there s k e = (rw e refl, rw e refl, rw e refl)

  -- a slot that is no sentinel's
  pub unmarked : (s : Links T N g) → AreLinked s → (k : ℕ) → mark_of s k ≡ None → (r : ℕ) (h : RingHead) → head_of s r ≡ Some h → h.sentinel ≢ k
  unmarked s linked k none r h e same = let clash : Some r ≡ None = sym (linked.marked r h e) ∙ ap (mark_of s) same ∙ none in cc

  -- where no bucket of a ring is, no bucket is
  pub no_bucket_at : (s : Links T N g) (k : ℕ) → at_of s k ≡ None → bucket_of s k ≡ None
  no_bucket_at s k none = go (bucket_of s k) (sym ((shown_of s).full k) ∙ ap is_some none) where
    go : (o : Option (BucketId × T)) → is_some o ≡ false → o ≡ None
    go None e = refl
    go (Some b) e = cc

  pub linked_by : (s t : Links T N g) → KeepsLinks s t → ((j : ℕ) → at_of t j ≡ at_of s j) → ((n : ℕ) → head_of t n ≡ head_of s n)
      → ((r : ℕ) (h : RingHead) → head_of s r ≡ Some h → mark_of t h.sentinel ≡ mark_of s h.sentinel) → AreLinked s → AreLinked t
  linked_by s t links at heads marks linked =
      linked_as (behind_of s) (behind_of t) (before_of s) (before_of t) (mark_of s) (mark_of t) (at_of s) (at_of t) (head_of s) (head_of t) (fun_ext links.behind) (fun_ext links.before)
      (fun_ext at) (fun_ext heads) marks linked

  pub linked_as_new : (s t : Links T N g) → KeepsLinks s t → ((j : ℕ) → at_of t j ≡ at_of s j) → SlotsLinked (behind_of s) (before_of s) (mark_of t) (at_of s) (head_of t) → AreLinked t
  linked_as_new s t links at linked =
      linked_as (behind_of s) (behind_of t) (before_of s) (before_of t) (mark_of t) (mark_of t) (at_of s) (at_of t) (head_of t) (head_of t) (fun_ext links.behind) (fun_ext links.before)
      (fun_ext at) refl (λ r h e. refl) linked
