-- What a bucket that is put into a ring or taken out changes.
use Rattle.std.proofs.Common.{◌≡◌, ℕ, ◌==◌, true, if◌then◌else◌, Option, None, Some, is_some, length, refl, ap, sym, ◌∙◌, inl, inr}
use Rattle.std.specs.Option.{option_map, option_map_or, option_and_then}
use Rattle.std.proofs.lemmas.Bool.{cases_eq}
use Rattle.std.proofs.lemmas.Option.{same_Some}
use Rattle.bucket_ring.specs.declared.names.BucketId.{BucketId}
use Rattle.bucket_ring.specs.declared.links.RingHead.{RingHead}
use Rattle.raw_nodes.specs.Loads.{bucket_in}
use Rattle.raw_nodes.specs.declared.node.Node.{Node}
use Rattle.raw_nodes.specs.declared.node.SlotBucket.{SlotBucket}
use Rattle.bucket_ring.specs.declared.links.Links.{Links}
use Rattle.bucket_ring.specs.declared.slots.Slots.{Ghosts}
use Rattle.bucket_ring.specs.Lists.{upd, list_at}
use Rattle.bucket_ring.specs.Walks.{slots, turned}
use Rattle.bucket_ring.specs.Links.{listed, IsShown, with_name, named_in, sentinel_ring, bucket_ring, behind_of, before_of, mark_of, at_of, bucket_of, head_of, lists_of, AreLinked, Changed}
use Rattle.bucket_ring.specs.Links.{KeepsLinks, KeepsBuckets, KeepsRoom, Relinked, Refilled}
use Rattle.bucket_ring.proofs.Counted.{upd_on, upd_off}
use Rattle.bucket_ring.proofs.Shown.{ring_length}
use Rattle.bucket_ring.proofs.Rewritten.{read_there}

pub upd_as : {X : Type 0} (r : ℕ) (x : X) (n : ℕ) (f g : ℕ → X) → ((i : ℕ) → f i ≡ g i) → upd f r x n ≡ upd g r x n
upd_as r x n f g e =
    elim (cases_eq n r) [
      | inl here ↦ rw here (upd_on f r x ∙ sym (upd_on g r x))
      | inr ne ↦ upd_off f r x n ne ∙ e n ∙ sym (upd_off g r x n ne)
    ]

pub turned_same : (f f2 b b2 : ℕ → ℕ) (a k j : ℕ) → ((i : ℕ) → f2 i ≡ f i) → ((i : ℕ) → b2 i ≡ b i) → turned f2 b2 a k j ≡ turned f b a k j
turned_same f f2 b b2 a k j e_f e_b =
    ap (λ (n : ℕ). if j == k then a else if j == b2 a then f2 k else n) (e_f j) ∙ ap (λ (n : ℕ). if j == k then a else if j == n then f2 k else f j) (e_b a)
    ∙ ap (λ (n : ℕ). if j == k then a else if j == b a then n else f j) (e_f k)

module _ {T N : Type 0} {g : Ghosts N T} where
  pub room_twice : (a b c : Links T N g) → KeepsRoom a b → KeepsRoom b c → KeepsRoom a c
  room_twice a b c first second = record {
    there = λ j. second.there j ∙ first.there j;
    room = λ n h. second.room n (first.room n h);
  }

  pub buckets_twice : (a b c : Links T N g) → KeepsBuckets a b → KeepsBuckets b c → KeepsBuckets a c
  buckets_twice a b c first second = record { mark = λ j. second.mark j ∙ first.mark j; at = λ j. second.at j ∙ first.at j; bucket = λ j. second.bucket j ∙ first.bucket j }

  -- what a slot says of its bucket
  pub shown_of : (s : Links T N g) → IsShown (mark_of s) (at_of s) (bucket_of s)
  unfolding mark_of at_of bucket_of
  shown_of s = record {
    named = λ k b e. is_named_in k (g.node s.nodes k) b e;
    full = λ k. is_full k (g.node s.nodes k);
    empty = λ k r e. is_empty k r (g.node s.nodes k) e;
  } where
    named_so : (k : ℕ) (o : Option (SlotBucket T)) (b : BucketId × T) → option_map (with_name k) o ≡ Some b → b.0.slot ≡ k
    named_so k None b e = cc
    named_so k (Some c) b e = ap (λ (d : BucketId × T). d.0.slot) (sym (same_Some (with_name k c) b e))

    is_named_in : (k : ℕ) (o : Option (Node T)) (b : BucketId × T) → option_and_then (named_in k) o ≡ Some b → b.0.slot ≡ k
    is_named_in k None b e = cc
    is_named_in k (Some v) b e = named_so k (bucket_in v.load) b e

    full_so : (k r : ℕ) (o : Option (SlotBucket T)) → is_some (option_map_or (λ _. Some r) o None) ≡ is_some (option_map (with_name k) o)
    full_so k r None = refl
    full_so k r (Some c) = refl

    is_full : (k : ℕ) (o : Option (Node T)) → is_some (option_and_then bucket_ring o) ≡ is_some (option_and_then (named_in k) o)
    is_full k None = refl
    is_full k (Some v) = full_so k v.ring (bucket_in v.load)

    empty_so : (k r q : ℕ) (o : Option (SlotBucket T)) → option_map_or (λ _. None) o (Some q) ≡ Some r → option_map (with_name k) o ≡ None
    empty_so k r q None e = refl
    empty_so k r q (Some c) e = cc

    is_empty : (k r : ℕ) (o : Option (Node T)) → option_and_then sentinel_ring o ≡ Some r → option_and_then (named_in k) o ≡ None
    is_empty k r None e = refl
    is_empty k r (Some v) e = empty_so k r v.ring (bucket_in v.load) e

  -- a slot that has a bucket or is a sentinel is there
  pub there_at : (s : Links T N g) (k r : ℕ) → at_of s k ≡ Some r → is_some (g.node s.nodes k) ≡ true
  unfolding at_of
  there_at s k r e = read_there bucket_ring (g.node s.nodes k) (ap is_some e)

  pub there_mark : (s : Links T N g) (k r : ℕ) → mark_of s k ≡ Some r → is_some (g.node s.nodes k) ≡ true
  unfolding mark_of
  there_mark s k r e = read_there sentinel_ring (g.node s.nodes k) (ap is_some e)

  -- a ring is there where its head is
  pub lists_there : (s : Links T N g) (r : ℕ) → is_some (lists_of s r) ≡ is_some (head_of s r)
  unfolding lists_of
  lists_there s r = go (head_of s r) where
    go : (o : Option RingHead) → is_some (option_map (λ (h : RingHead). listed (bucket_of s) (slots (behind_of s) (Some h))) o) ≡ is_some o
    go None = refl
    go (Some h) = refl

  pub length_of : (s : Links T N g) (r : ℕ) (h : RingHead) → AreLinked s → head_of s r ≡ Some h → length (list_at (lists_of s) r) ≡ h.count
  unfolding lists_of
  length_of s r h linked e = ring_length (bucket_of s) (mark_of s) (at_of s) (shown_of s) (behind_of s) (before_of s) (head_of s) linked r h e

  pub heads_same : (s t : Links T N g) → t.heads ≡ s.heads → (n : ℕ) → head_of t n ≡ head_of s n
  unfolding head_of
  heads_same s t e n = rw e refl

  pub nodes_same : (s t : Links T N g) → t.nodes ≡ s.nodes → KeepsLinks s t × KeepsBuckets s t × KeepsRoom s t
  unfolding behind_of before_of mark_of at_of bucket_of
  nodes_same s t e = (
    record { behind = λ j. rw e refl; before = λ j. rw e refl },
    record { mark = λ j. rw e refl; at = λ j. rw e refl; bucket = λ j. rw e refl },
    record { there = λ j. rw e refl; room = λ n h. rw e h },
  )

  -- links that are the same still undo each other
  pub forth_kept : {s t : Links T N g} → KeepsLinks s t → ((j : ℕ) → behind_of s (before_of s j) ≡ j) → (j : ℕ) → behind_of t (before_of t j) ≡ j
  forth_kept {s = s} {t = t} links forth j = links.behind (before_of t j) ∙ ap (behind_of s) (links.before j) ∙ forth j

  pub back_kept : {s t : Links T N g} → KeepsLinks s t → ((j : ℕ) → before_of s (behind_of s j) ≡ j) → (j : ℕ) → before_of t (behind_of t j) ≡ j
  back_kept {s = s} {t = t} links back j = links.before (behind_of t j) ∙ ap (before_of s) (links.behind j) ∙ back j

  -- the count of a ring is written before, or after
  pub refilled_since : (s s0 t : Links T N g) (k : ℕ) (w : Option (BucketId × T)) (v : Option ℕ) → s0.nodes ≡ s.nodes → Refilled s0 t k w v → Refilled s t k w v
  refilled_since s s0 t k w v nodes filled =
      let counted = nodes_same s s0 nodes in
      record {
        bucket_new = λ j. filled.bucket_new j ∙ upd_as k w j (bucket_of s0) (bucket_of s) counted.1.bucket;
        at = λ j. filled.at j ∙ upd_as k v j (at_of s0) (at_of s) counted.1.at;
        mark = λ j ne. filled.mark j ne ∙ counted.1.mark j;
        links = record { behind = λ j. filled.links.behind j ∙ counted.0.behind j; before = λ j. filled.links.before j ∙ counted.0.before j };
        room = room_twice s s0 t counted.2 filled.room;
      }

  pub relinked_until : (s s1 t : Links T N g) (f b : ℕ → ℕ) → t.nodes ≡ s1.nodes → Relinked s s1 f b → Relinked s t f b
  relinked_until s s1 t f b nodes linked =
      let counted = nodes_same s1 t nodes in
      record {
        behind = λ j. counted.0.behind j ∙ linked.behind j;
        before = λ j. counted.0.before j ∙ linked.before j;
        buckets = buckets_twice s s1 t linked.buckets counted.1;
        room = room_twice s s1 t linked.room counted.2;
      }

  -- a slot has another bucket, and is turned to another place
  pub changed : (s s1 t : Links T N g) (k a r : ℕ) (w : Option (BucketId × T)) (v : Option ℕ) (h : RingHead) → Refilled s s1 k w v
      → Relinked s1 t (turned (behind_of s1) (before_of s1) a k) (turned (before_of s1) (behind_of s1) k a)
      → ((n : ℕ) → head_of t n ≡ upd (head_of s) r (Some h) n) → Changed s t k a r w v h
  changed s s1 t k a r w v h filled linked heads = record {
    behind = λ j. linked.behind j ∙ turned_same (behind_of s) (behind_of s1) (before_of s) (before_of s1) a k j filled.links.behind filled.links.before;
    before = λ j. linked.before j ∙ turned_same (before_of s) (before_of s1) (behind_of s) (behind_of s1) k a j filled.links.before filled.links.behind;
    bucket_new = λ j. linked.buckets.bucket j ∙ filled.bucket_new j;
    at = λ j. linked.buckets.at j ∙ filled.at j;
    mark = λ j ne. linked.buckets.mark j ∙ filled.mark j ne;
    heads = heads;
    room = room_twice s s1 t filled.room linked.room;
  }
