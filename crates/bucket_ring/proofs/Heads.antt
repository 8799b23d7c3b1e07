-- Rings that come and end, and a bucket that gets another payload.
use Rattle.std.proofs.Common.{◌≡◌, ◌≢◌, ℕ, ◌+◌, ◌^◌, ◌<◌, Bool, if◌then◌else◌, Option, None, Some, List, [], ◌∷◌, ◌++◌, drop, refl, ap, sym, subst, ◌∙◌, arith, inl, inr, append_assoc}
use Rattle.std.proofs.Math.Path.{fun_ext}
use Rattle.std.specs.Option.{option_map}
use Rattle.std.proofs.lemmas.Bool.{cases_eq}
use Rattle.std.proofs.lemmas.Option.{same_Some}
use Rattle.bucket_ring.specs.declared.names.BucketId.{BucketId}
use Rattle.bucket_ring.specs.declared.links.RingHead.{RingHead}
use Rattle.bucket_ring.specs.declared.links.Links.{Links}
use Rattle.bucket_ring.specs.declared.slots.Slots.{Ghosts}
use Rattle.bucket_ring.specs.Lists.{upd, on, rest, with_payload}
use Rattle.bucket_ring.specs.Kept.{once_in}
use Rattle.bucket_ring.specs.Laws.{same_name}
use Rattle.bucket_ring.specs.Walks.{count, slots, reached, SlotsLinked}
use Rattle.bucket_ring.specs.Links.{with_first, listed, is_named, ring_named, lists_by, behind_of, before_of, mark_of, at_of, bucket_of, head_of, ring_at, lists_of, AreLinked, KeepsLinks}
use Rattle.bucket_ring.proofs.Counted.{upd_on, upd_off}
use Rattle.bucket_ring.proofs.Walks.{count_append, count_here}
use Rattle.bucket_ring.proofs.Linked.{own_ring, other_ring}
use Rattle.bucket_ring.proofs.Shown.{listed_append, listed_same}
use Rattle.bucket_ring.proofs.Read.{nothing_there, view_of, head_of_bucket}

-- no ring at all
pub none_linked : (f b : ℕ → ℕ) (mark at : ℕ → Option ℕ) (heads : ℕ → Option RingHead) → ((k : ℕ) → f k ≡ k) → ((k : ℕ) → b k ≡ k) → ((k : ℕ) → at k ≡ None) → ((r : ℕ) → heads r ≡ None)
    → SlotsLinked f b mark at heads
none_linked f b mark at heads e_f e_b e_at none = record {
  back = λ k. e_b (f k) ∙ e_f k;
  forth = λ k. e_f (b k) ∙ e_b k;
  ends = λ r h e. absurd (no_head r h e);
  marked = λ r h e. absurd (no_head r h e);
  apart = λ r h e. absurd (no_head r h e);
  few = λ r h e. absurd (no_head r h e);
  counted = λ k r. ap (λ (o : Option RingHead). count k (slots f o)) (none r) ∙ sym (ap (once_in r) (e_at k));
} where
  no_head : (r : ℕ) (h : RingHead) → heads r ≡ Some h → ⊥
  no_head r h e = let clash : Some h ≡ None = sym e ∙ none r in cc

module _ (f b : ℕ → ℕ) (mark mark2 at : ℕ → Option ℕ) (heads heads2 : ℕ → Option RingHead) (q : ℕ) (linked : SlotsLinked f b mark at heads) where
  -- a ring comes, whose sentinel leads to itself
  pub ring_comes : (s : ℕ) → heads q ≡ None → ((n : ℕ) → heads2 n ≡ upd heads q (Some (record { sentinel = s; count = 0 })) n) → f s ≡ s → mark s ≡ None → at s ≡ None
      → ((j : ℕ) → mark2 j ≡ upd mark s (Some q) j) → SlotsLinked f b mark2 at heads2
  ring_comes s none heads_new loose unmarked nowhere marks = record {
    back = linked.back;
    forth = linked.forth;
    ends = by_ring (λ n g. reached f (f g.sentinel) g.count ≡ g.sentinel) loose (λ n g e. linked.ends n g e);
    marked = by_ring (λ n g. mark2 g.sentinel ≡ Some n) (marks s ∙ upd_on mark s (Some q))
        (λ n g e. marks g.sentinel ∙ upd_off mark s (Some q) g.sentinel (λ same. let clash : Some n ≡ None = sym (linked.marked n g e) ∙ ap mark same ∙ unmarked in cc) ∙ linked.marked n g e);
    apart = by_ring (λ n g. at g.sentinel ≡ None) nowhere (λ n g e. linked.apart n g e);
    few = by_ring (λ n g. g.count < 2 ^ 64) (omega arith) (λ n g e. linked.few n g e);
    counted = λ k r. elim (cases_eq r q) [
      | inl e ↦ rw e (ap (λ (o : Option RingHead). count k (slots f o)) (heads_new q ∙ upd_on heads q (Some (record { sentinel = s; count = 0 })))
          ∙ sym (ap (λ (o : Option RingHead). count k (slots f o)) none) ∙ linked.counted k q)
      | inr ne ↦ ap (λ (o : Option RingHead). count k (slots f o)) (heads_new r ∙ upd_off heads q (Some (record { sentinel = s; count = 0 })) r ne) ∙ linked.counted k r
    ];
  } where
    by_ring : (P : ℕ → RingHead → Type 0) → P q (record { sentinel = s; count = 0 }) → ((n : ℕ) (g : RingHead) → heads n ≡ Some g → P n g) → (n : ℕ) (g : RingHead) → heads2 n ≡ Some g → P n g
    by_ring P at_q at_n n g e =
        elim (cases_eq n q) [
          | inl here ↦
              let head : Some (record { sentinel = s; count = 0 }) ≡ Some g = sym (heads_new q ∙ upd_on heads q (Some (record { sentinel = s; count = 0 }))) ∙ ap heads2 (sym here) ∙ e in
              subst (λ (m : ℕ). P m g) (sym here) (subst (λ (x : RingHead). P q x) (same_Some (record { sentinel = s; count = 0 }) g head) at_q)
          | inr ne ↦ at_n n g (sym (heads_new n ∙ upd_off heads q (Some (record { sentinel = s; count = 0 })) n ne) ∙ e)
        ]

  -- an empty ring ends
  pub ring_ends : (h : RingHead) → heads q ≡ Some h → h.count ≡ 0 → ((n : ℕ) → heads2 n ≡ upd heads q None n) → ((j : ℕ) → j ≢ h.sentinel → mark2 j ≡ mark j) → SlotsLinked f b mark2 at heads2
  ring_ends h head none heads_new marks = record {
    back = linked.back;
    forth = linked.forth;
    ends = λ n g e. linked.ends n g (was n g e).0;
    marked = λ n g e. marks g.sentinel (λ same. (was n g e).1 (same_Some n q (sym (linked.marked n g (was n g e).0) ∙ ap mark same ∙ linked.marked q h head))) ∙ linked.marked n g (was n g e).0;
    apart = λ n g e. linked.apart n g (was n g e).0;
    few = λ n g e. linked.few n g (was n g e).0;
    counted = λ k r. elim (cases_eq r q) [
      | inl e ↦ rw e (ap (λ (o : Option RingHead). count k (slots f o)) (heads_new q ∙ upd_on heads q None) ∙ sym (ap (λ (o : Option RingHead). count k (slots f o)) head ∙ empty k)
          ∙ linked.counted k q)
      | inr ne ↦ ap (λ (o : Option RingHead). count k (slots f o)) (heads_new r ∙ upd_off heads q None r ne) ∙ linked.counted k r
    ];
  } where
    empty : (k : ℕ) → count k (slots f (Some h)) ≡ 0
    empty k = rw none refl

    was : (n : ℕ) (g : RingHead) → heads2 n ≡ Some g → (heads n ≡ Some g) × (n ≢ q)
    was n g e =
        elim (cases_eq n q) [
          | inl here ↦ let clash : None ≡ Some g = sym (heads_new q ∙ upd_on heads q None) ∙ ap heads2 (sym here) ∙ e in absurd (cc)
          | inr ne ↦ (sym (heads_new n ∙ upd_off heads q None n ne) ∙ e, ne)
        ]

module _ {T : Type 0} where
  heads_on : (f : ℕ → ℕ) (bucket : ℕ → Option (BucketId × T)) (heads heads2 : ℕ → Option RingHead) (q : ℕ) (o : Option RingHead) → ((n : ℕ) → heads2 n ≡ upd heads q o n) → (n : ℕ)
      → lists_by f bucket heads2 n ≡ upd (lists_by f bucket heads) q (option_map (λ (h : RingHead). listed bucket (slots f (Some h))) o) n
  heads_on f bucket heads heads2 q o heads_new n =
      elim (cases_eq n q) [
        | inl e ↦ rw e (ap (option_map (λ (h : RingHead). listed bucket (slots f (Some h)))) (heads_new q ∙ upd_on heads q o)
            ∙ sym (upd_on (lists_by f bucket heads) q (option_map (λ (h : RingHead). listed bucket (slots f (Some h))) o)))
        | inr ne ↦ ap (option_map (λ (h : RingHead). listed bucket (slots f (Some h)))) (heads_new n ∙ upd_off heads q o n ne)
            ∙ sym (upd_off (lists_by f bucket heads) q (option_map (λ (h : RingHead). listed bucket (slots f (Some h))) o) n ne)
      ]

module _ {T N : Type 0} {g : Ghosts N T} where
  -- no slot and no ring
  pub nothing_linked : (s : Links T N g) → ((j : ℕ) → g.node s.nodes j ≡ None) → ((n : ℕ) → head_of s n ≡ None) → AreLinked s
  unfolding before_of
  nothing_linked s nodes heads =
      none_linked (behind_of s) (before_of s) (mark_of s) (at_of s) (head_of s) (λ k. (nothing_there s k (nodes k)).0) (λ k. rw (nodes k) refl) (λ k. (nothing_there s k (nodes k)).2) heads

  pub nothing_listed : (s : Links T N g) → ((n : ℕ) → head_of s n ≡ None) → (n : ℕ) → lists_of s n ≡ None
  unfolding lists_of
  nothing_listed s heads n = ap (option_map (λ (h : RingHead). listed (bucket_of s) (slots (behind_of s) (Some h)))) (heads n)

  pub nothing_placed : (s : Links T N g) → ((j : ℕ) → g.node s.nodes j ≡ None) → (id : BucketId) → ring_at s id ≡ None
  unfolding ring_at bucket_of
  nothing_placed s nodes id = rw (nodes id.slot) refl

  -- the lists after one head changed, and no bucket
  pub head_lists : (s t : Links T N g) (q : ℕ) (o : Option RingHead) → KeepsLinks s t → ((j : ℕ) → bucket_of t j ≡ bucket_of s j) → ((n : ℕ) → head_of t n ≡ upd (head_of s) q o n) → (n : ℕ)
      → lists_of t n ≡ upd (lists_of s) q (option_map (λ (h : RingHead). listed (bucket_of s) (slots (behind_of s) (Some h))) o) n
  unfolding lists_of
  head_lists s t q o links bucket heads n =
      ap (λ (x : ℕ → ℕ). lists_by x (bucket_of t) (head_of t) n) (fun_ext links.behind) ∙ ap (λ (x : ℕ → Option (BucketId × T)). lists_by (behind_of s) x (head_of t) n) (fun_ext bucket)
      ∙ heads_on (behind_of s) (bucket_of s) (head_of s) (head_of t) q o heads n

  pub same_places : (s t : Links T N g) → ((j : ℕ) → at_of t j ≡ at_of s j) → ((j : ℕ) → bucket_of t j ≡ bucket_of s j) → (id : BucketId) → ring_at t id ≡ ring_at s id
  unfolding ring_at
  same_places s t at bucket id = ap (λ (x : ℕ → Option (BucketId × T)). ring_named x (at_of t) id) (fun_ext bucket) ∙ ap (λ (x : ℕ → Option ℕ). ring_named (bucket_of s) x id) (fun_ext at)

  pub no_ring : (s : Links T N g) (r : ℕ) → lists_of s r ≡ None → head_of s r ≡ None
  unfolding lists_of
  no_ring s r = go (head_of s r) where
    go : (o : Option RingHead) → option_map (λ (h : RingHead). listed (bucket_of s) (slots (behind_of s) (Some h))) o ≡ None → o ≡ None
    go None e = refl
    go (Some h) e = cc

  -- one bucket has another payload
  module _ (s t : Links T N g) (id : BucketId) (r : ℕ) (x : T) (linked : AreLinked s) (in_r : ring_at s id ≡ Some r) (links : KeepsLinks s t) (at : (j : ℕ) → at_of t j ≡ at_of s j)
      (bucket : (j : ℕ) → bucket_of t j ≡ upd (bucket_of s) id.slot (option_map (λ (b : BucketId × T). (b.0, x)) (bucket_of s id.slot)) j) (heads : (n : ℕ) → head_of t n ≡ head_of s n) where
    off : (j : ℕ) → j ≢ id.slot → bucket_of t j ≡ bucket_of s j
    off j ne = bucket j ∙ upd_off (bucket_of s) id.slot (option_map (λ (b : BucketId × T). (b.0, x)) (bucket_of s id.slot)) j ne

    here : bucket_of t id.slot ≡ option_map (λ (b : BucketId × T). (b.0, x)) (bucket_of s id.slot)
    here = bucket id.slot ∙ upd_on (bucket_of s) id.slot (option_map (λ (b : BucketId × T). (b.0, x)) (bucket_of s id.slot))

    one : (h : RingHead) → head_of s r ≡ Some h → listed (bucket_of t) (slots (behind_of s) (Some h)) ≡ with_payload id x (listed (bucket_of s) (slots (behind_of s) (Some h)))
    one h e =
        let w = view_of s linked id r h e in_r in
        let all : count id.slot w.1 + count id.slot (id.slot ∷ w.2) ≡ 1 =
        sym (count_append id.slot w.1 (id.slot ∷ w.2)) ∙ ap (count id.slot) (sym w.6) ∙ own_ring (behind_of s) (before_of s) (mark_of s) (at_of s) (head_of s) linked id.slot r h e w.5 in
        let none : count id.slot w.2 ≡ 0 = omega (arith, all, count_here id.slot w.2) in
        let is : bucket_of t id.slot ≡ Some (id, x) = here ∙ ap (option_map (λ (b : BucketId × T). (b.0, x))) w.3 ∙ ap (λ (i : BucketId). Some (i, x)) (same_name w.0.0 id w.4) in
        ap (listed (bucket_of t)) w.6 ∙ listed_append (bucket_of t) w.1 (id.slot ∷ w.2)
        ∙ ap (λ (bs : List (BucketId × T)). bs ++ with_first (bucket_of t id.slot) (listed (bucket_of t) w.2)) (listed_same (bucket_of s) (bucket_of t) id.slot w.1 off w.7)
        ∙ ap (λ (o : Option (BucketId × T)). listed (bucket_of s) w.1 ++ with_first o (listed (bucket_of t) w.2)) is
        ∙ ap (λ (bs : List (BucketId × T)). listed (bucket_of s) w.1 ++ (id, x) ∷ bs) (listed_same (bucket_of s) (bucket_of t) id.slot w.2 off none)
        ∙ sym (ap (λ (bs : List (BucketId × T)). bs ++ (id, x) ∷ [] ++ drop 1 (rest id (listed (bucket_of s) (slots (behind_of s) (Some h))))) w.8
        ∙ ap (λ (bs : List (BucketId × T)). listed (bucket_of s) w.1 ++ (id, x) ∷ [] ++ drop 1 bs) w.9
        ∙ append_assoc (listed (bucket_of s) w.1) ((id, x) ∷ []) (listed (bucket_of s) w.2))

    other : (n : ℕ) → n ≢ r → (o : Option RingHead) → head_of s n ≡ o
        → option_map (λ (h : RingHead). listed (bucket_of t) (slots (behind_of s) (Some h))) o ≡ option_map (λ (h : RingHead). listed (bucket_of s) (slots (behind_of s) (Some h))) o
    other n ne None e = refl
    other n ne (Some h) e =
        let g = head_of_bucket s linked id r in_r in
        let w = view_of s linked id r g.0 g.1 in_r in
        ap Some (listed_same (bucket_of s) (bucket_of t) id.slot (slots (behind_of s) (Some h)) off
        (other_ring (behind_of s) (before_of s) (mark_of s) (at_of s) (head_of s) linked id.slot r n h e w.5 ne))

    pub payload_lists : (n : ℕ) → lists_of t n ≡ on r (with_payload id x) (lists_of s) n
    unfolding lists_of
    payload_lists n =
        ap (λ (f : ℕ → ℕ). lists_by f (bucket_of t) (head_of t) n) (fun_ext links.behind) ∙ ap (λ (hs : ℕ → Option RingHead). lists_by (behind_of s) (bucket_of t) hs n) (fun_ext heads)
        ∙ elim (cases_eq n r) [
          | inl e ↦
              let g = head_of_bucket s linked id r in_r in
              rw e (ap (option_map (λ (h : RingHead). listed (bucket_of t) (slots (behind_of s) (Some h)))) g.1 ∙ ap Some (one g.0 g.1)
              ∙ sym (upd_on (lists_by (behind_of s) (bucket_of s) (head_of s)) r (option_map (with_payload id x) (lists_by (behind_of s) (bucket_of s) (head_of s) r))
              ∙ ap (λ (o : Option RingHead). option_map (with_payload id x) (option_map (λ (h : RingHead). listed (bucket_of s) (slots (behind_of s) (Some h))) o)) g.1))
          | inr ne ↦ other n ne (head_of s n) refl
              ∙ sym (upd_off (lists_by (behind_of s) (bucket_of s) (head_of s)) r (option_map (with_payload id x) (lists_by (behind_of s) (bucket_of s) (head_of s) r)) n ne)
        ]

    pub payload_places : (j : BucketId) → ring_at t j ≡ ring_at s j
    unfolding ring_at
    payload_places j =
        ap (λ (f : ℕ → Option ℕ). ring_named (bucket_of t) f j) (fun_ext at)
        ∙ elim (cases_eq j.slot id.slot) [
          | inl e ↦ ap (λ (b : Bool). if b then at_of s j.slot else None)
              (ap (λ (k : ℕ). is_named j (bucket_of t k)) e ∙ ap (is_named j) here ∙ go (bucket_of s id.slot) ∙ sym (ap (λ (k : ℕ). is_named j (bucket_of s k)) e))
          | inr ne ↦ ap (λ (o : Option (BucketId × T)). if is_named j o then at_of s j.slot else None) (off j.slot ne)
        ] where
          go : (o : Option (BucketId × T)) → is_named j (option_map (λ (b : BucketId × T). (b.0, x)) o) ≡ is_named j o
          go None = refl
          go (Some b) = refl
