-- What is read of slots where one has another node.
use Rattle.std.proofs.Common.{◌≡◌, ◌≢◌, ℕ, ◌≤◌, ◌==◌, true, if◌then◌else◌, Option, None, Some, is_some, refl, ap, sym, ◌∙◌, arith, inl, inr}
use Rattle.std.proofs.lemmas.Bool.{cases_eq, eq-eqb, ne_eqb}
use Rattle.std.specs.Option.{option_map, option_map_or, option_and_then}
use Rattle.raw_nodes.specs.declared.node.Node.{Node}
use Rattle.raw_nodes.specs.declared.node.SlotBucket.{SlotBucket}
use Rattle.raw_nodes.specs.Loads.{load_of, bucket_in}
use Rattle.bucket_ring.specs.declared.names.BucketId.{BucketId}
use Rattle.bucket_ring.specs.declared.links.Links.{Links}
use Rattle.bucket_ring.specs.declared.slots.Slots.{Ghosts}
use Rattle.bucket_ring.specs.Lists.{upd}
use Rattle.bucket_ring.specs.Links.{with_name, named_in, sentinel_ring, bucket_ring, behind_of, before_of, mark_of, at_of, bucket_of, KeepsBuckets, KeepsRoom, Relinked, Refilled}
use Rattle.bucket_ring.proofs.Counted.{upd_on, upd_off}
use Rattle.bucket_ring.proofs.Shown.{some_is}

-- a slot of which something is read has a node
pub read_there : {X Y : Type 0} (f : X → Option Y) (o : Option X) → is_some (option_and_then f o) ≡ true → is_some o ≡ true
read_there f None h = h
read_there f (Some x) h = refl

module _ {T : Type 0} where
  -- the bucket of a node, by its load
  pub named_load : (k : ℕ) (o : Option (Node T)) → option_and_then (named_in k) o ≡ option_map (with_name k) (option_and_then bucket_in (load_of o))
  named_load k None = refl
  named_load k (Some v) = refl

  pub named_some : (k : ℕ) (o : Option (SlotBucket T)) → is_some (option_map (with_name k) o) ≡ is_some o
  named_some k None = refl
  named_some k (Some b) = refl

  -- where p had v, q has w, and is the same elsewhere
  module _ (p q : ℕ → Option (Node T)) (k : ℕ) (v w : Node T) (was : p k ≡ Some v) (new : (j : ℕ) → q j ≡ upd p k (Some w) j) where
    here : q k ≡ Some w
    here = new k ∙ upd_on p k (Some w)

    off : (j : ℕ) → j ≢ k → q j ≡ p j
    off j ne = new j ∙ upd_off p k (Some w) j ne

    -- a link
    module _ (f : Node T → ℕ) where
      abbrev link : (ℕ → Option (Node T)) → ℕ → ℕ
      link x j = option_map_or f (x j) j

      pub link_new : (j : ℕ) → link q j ≡ (if j == k then f w else link p j)
      link_new j =
          elim (cases_eq j k) [
            | inl e ↦ rw (eq-eqb j k e) (ap (link q) e ∙ ap (λ (o : Option (Node T)). option_map_or f o k) here)
            | inr ne ↦ rw (ne_eqb j k ne) (ap (λ (o : Option (Node T)). option_map_or f o j) (off j ne))
          ]

      pub link_kept : f w ≡ f v → (j : ℕ) → link q j ≡ link p j
      link_kept e j =
          elim (cases_eq j k) [
            | inl is ↦ ap (link q) is ∙ ap (λ (o : Option (Node T)). option_map_or f o k) here ∙ e ∙ sym (ap (link p) is ∙ ap (λ (o : Option (Node T)). option_map_or f o k) was)
            | inr ne ↦ ap (λ (o : Option (Node T)). option_map_or f o j) (off j ne)
          ]

    -- what is read of a node alone
    module _ {X : Type 0} (f : ℕ → Node T → Option X) where
      pub read_new : (x : Option X) → f k w ≡ x → (j : ℕ) → option_and_then (f j) (q j) ≡ upd (λ i. option_and_then (f i) (p i)) k x j
      read_new x e j =
          elim (cases_eq j k) [
            | inl is ↦ rw is (ap (option_and_then (f k)) here ∙ e ∙ sym (upd_on (λ i. option_and_then (f i) (p i)) k x))
            | inr ne ↦ ap (option_and_then (f j)) (off j ne) ∙ sym (upd_off (λ i. option_and_then (f i) (p i)) k x j ne)
          ]

      pub read_off : (j : ℕ) → j ≢ k → option_and_then (f j) (q j) ≡ option_and_then (f j) (p j)
      read_off j ne = ap (option_and_then (f j)) (off j ne)

      pub read_kept : f k w ≡ f k v → (j : ℕ) → option_and_then (f j) (q j) ≡ option_and_then (f j) (p j)
      read_kept e j =
          elim (cases_eq j k) [
            | inl is ↦ rw is (ap (option_and_then (f k)) here ∙ e ∙ sym (ap (option_and_then (f k)) was))
            | inr ne ↦ read_off j ne
          ]

    pub there_kept : (j : ℕ) → is_some (q j) ≡ is_some (p j)
    there_kept j =
        elim (cases_eq j k) [
          | inl is ↦ rw is (ap is_some here ∙ sym (ap is_some was))
          | inr ne ↦ ap is_some (off j ne)
        ]

module _ {T N : Type 0} {g : Ghosts N T} where
  -- the node in slot k is `to` of what it was
  module _ (s t : Links T N g) (k : ℕ) (to : Node T → Node T) (there : is_some (g.node s.nodes k) ≡ true)
      (at : (v : Node T) → g.node s.nodes k ≡ Some v → (j : ℕ) → g.node t.nodes j ≡ upd (g.node s.nodes) k (Some (to v)) j)
      (room : g.room s.nodes ≤ g.room t.nodes) where
    node_was : (v : Node T) × (g.node s.nodes k ≡ Some v)
    node_was = some_is (g.node s.nodes k) there

    new_link : (f : Node T → ℕ) (m : ℕ) → ((v : Node T) → f (to v) ≡ m) → (j : ℕ) → option_map_or f (g.node t.nodes j) j ≡ (if j == k then m else option_map_or f (g.node s.nodes j) j)
    new_link f m e j = link_new (g.node s.nodes) (g.node t.nodes) k node_was.0 (to node_was.0) node_was.1 (at node_was.0 node_was.1) f j
        ∙ ap (λ (n : ℕ). if j == k then n else option_map_or f (g.node s.nodes j) j) (e node_was.0)

    same_link : (f : Node T → ℕ) → ((v : Node T) → f (to v) ≡ f v) → (j : ℕ) → option_map_or f (g.node t.nodes j) j ≡ option_map_or f (g.node s.nodes j) j
    same_link f e = link_kept (g.node s.nodes) (g.node t.nodes) k node_was.0 (to node_was.0) node_was.1 (at node_was.0 node_was.1) f (e node_was.0)

    same_read : {X : Type 0} (f : ℕ → Node T → Option X) → ((v : Node T) → f k (to v) ≡ f k v) → (j : ℕ) → option_and_then (f j) (g.node t.nodes j) ≡ option_and_then (f j) (g.node s.nodes j)
    same_read f e = read_kept (g.node s.nodes) (g.node t.nodes) k node_was.0 (to node_was.0) node_was.1 (at node_was.0 node_was.1) f (e node_was.0)

    same_room : KeepsRoom s t
    same_room = record { there = there_kept (g.node s.nodes) (g.node t.nodes) k node_was.0 (to node_was.0) node_was.1 (at node_was.0 node_was.1); room = λ n h. omega (arith, h, room) }

    same_buckets : ((v : Node T) → ((to v).ring ≡ v.ring) × ((to v).load ≡ v.load)) → KeepsBuckets s t
    unfolding mark_of at_of bucket_of
    same_buckets e = record {
      mark = same_read (λ j n. sentinel_ring n) (λ v. rw ((e v).0, (e v).1) refl);
      at = same_read (λ j n. bucket_ring n) (λ v. rw ((e v).0, (e v).1) refl);
      bucket = same_read named_in (λ v. rw ((e v).1) refl);
    }

    relinked : (f b : ℕ → ℕ) → ((j : ℕ) → behind_of t j ≡ f j) → ((j : ℕ) → before_of t j ≡ b j) → ((v : Node T) → ((to v).ring ≡ v.ring) × ((to v).load ≡ v.load)) → Relinked s t f b
    relinked f b behind before kept = record { behind = behind; before = before; buckets = same_buckets kept; room = same_room }

    pub refilled : (w : Option (BucketId × T)) (r : Option ℕ) → ((v : Node T) → ((to v).behind ≡ v.behind) × ((to v).before ≡ v.before))
        → ((v : Node T) → g.node s.nodes k ≡ Some v → (named_in k (to v) ≡ w) × (bucket_ring (to v) ≡ r)) → Refilled s t k w r
    unfolding behind_of before_of mark_of at_of bucket_of
    refilled w r links is =
        let v = node_was in
        let new = at v.0 v.1 in
        record {
          bucket_new = read_new (g.node s.nodes) (g.node t.nodes) k v.0 (to v.0) v.1 new named_in w (is v.0 v.1).0;
          at = read_new (g.node s.nodes) (g.node t.nodes) k v.0 (to v.0) v.1 new (λ j n. bucket_ring n) r (is v.0 v.1).1;
          mark = read_off (g.node s.nodes) (g.node t.nodes) k v.0 (to v.0) v.1 new (λ j n. sentinel_ring n);
          links = record { behind = same_link (λ n. n.behind) (λ v. (links v).0); before = same_link (λ n. n.before) (λ v. (links v).1) };
          room = same_room;
        }

  module _ (s t : Links T N g) (k m : ℕ) (there : is_some (g.node s.nodes k) ≡ true) (room : g.room s.nodes ≤ g.room t.nodes) where
    abbrev With : (Node T → Node T) → Type 0
    With to = (v : Node T) → g.node s.nodes k ≡ Some v → (j : ℕ) → g.node t.nodes j ≡ upd (g.node s.nodes) k (Some (to v)) j

    pub behind_set : With (λ v. record v { behind = m }) → Relinked s t (λ j. if j == k then m else behind_of s j) (before_of s)
    unfolding behind_of before_of
    behind_set at =
        let to : Node T → Node T = λ v. record v { behind = m } in
        relinked s t k to there at room _ _ (new_link s t k to there at room (λ n. n.behind) m (λ v. refl)) (same_link s t k to there at room (λ n. n.before) (λ v. refl)) (λ v. (refl, refl))

    pub before_set : With (λ v. record v { before = m }) → Relinked s t (behind_of s) (λ j. if j == k then m else before_of s j)
    unfolding behind_of before_of
    before_set at =
        let to : Node T → Node T = λ v. record v { before = m } in
        relinked s t k to there at room _ _ (same_link s t k to there at room (λ n. n.behind) (λ v. refl)) (new_link s t k to there at room (λ n. n.before) m (λ v. refl)) (λ v. (refl, refl))
