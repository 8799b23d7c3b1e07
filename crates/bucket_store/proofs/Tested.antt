-- Rings whose items all pass a test: whatever is done to them, all pass still.
use Rattle.std.proofs.Common.{◌≡◌, ℕ, Bool, true, false, Option, Some, None, is_some, Result, Ok, Err, [], ◌++◌, refl, ap, sym, ◌∙◌}
use Rattle.std.specs.Prelude.{IfOk, OnOk, OnErr, if◌then◌else◌}
use Rattle.std.specs.List.{list_all}
use Rattle.bucket_kinds.specs.declared.stored.Stored.{Stored}
use Rattle.bucket_ring.specs.declared.names.BucketId.{BucketId}
use Rattle.bucket_ring.specs.declared.rings.Rings.{Ghosts}
use Rattle.bucket_ring.specs.Lists.{upd, on, list_at, same, front, rest, found, put_before, without, with_payload}
use Rattle.bucket_ring.specs.Kept.{IsKept}
use Rattle.bucket_ring.specs.Laws.{found_in}
use Rattle.bucket_store.specs.declared.dependents.Dependents.{Dependents}
use Rattle.bucket_store.specs.declared.indexed.Indexed.{Indexed}
use Rattle.bucket_store.specs.declared.bucket_store.BucketStore.{BucketStore}
use Rattle.bucket_store.specs.Dependents.{noted}
use Rattle.bucket_store.specs.Items.{StoredItem, StoredItems}
use Rattle.bucket_store.specs.Noted.{kind_under, home_under, place_under, place_of, is_noted, AreNoted}
use Rattle.bucket_store.specs.Regions.{look}
use Rattle.bucket_kinds.specs.Stored.{is_whole}
use Rattle.bucket_store.specs.Shown.{held_item, lies_right}
use Rattle.bucket_store.proofs.Lists.{some_of}
use Rattle.bucket_store.proofs.Saves.{found_some}
use Rattle.bucket_store.proofs.Noted.{both, all_joined, all_front, all_rest, all_without, all_before, all_set, all_found, same_lists, one_other, one_changed, are_kept, noted_item}

pub record Tested {R : Type 0} (g : Ghosts R Stored) : Type 0 where
  pub rings : R
  pub law : IsKept (g.ring_at rings) (g.lists rings) (g.next_name rings)
  pub test : StoredItem → Bool
  pub all : (n : ℕ) → list_all test (list_at (g.lists rings) n) ≡ true

-- what keeps a list passing where the item that is put in passes,
abbrev pub PutsIn : (StoredItem → StoredItems → StoredItems) → Type 0
PutsIn put = (p : StoredItem → Bool) (x : StoredItem) (xs : StoredItems) → p x ≡ true → list_all p xs ≡ true → list_all p (put x xs) ≡ true

-- also at a bucket of the list
abbrev pub PutsAt : (BucketId → StoredItem → StoredItems → StoredItems) → Type 0
PutsAt put = (p : StoredItem → Bool) (at : BucketId) (x : StoredItem) (xs : StoredItems) → p x ≡ true → list_all p xs ≡ true → list_all p (put at x xs) ≡ true

module _ {R : Type 0} {g : Ghosts R Stored} where
  -- all buckets of a store are noted,
  abbrev pub noted_in : Indexed R g → Tested g
  noted_in s = record { rings = s.rings; law = s.kept; test = is_noted (noted s.dependents); all = s.indexed }

  -- also where names were noted since
  abbrev pub noted_since : (s : Indexed R g) (d to : Dependents) → AreNoted (noted d) (g.lists s.rings)
      → ((p : ℕ) (id : BucketId) → noted d p id ≡ true → noted to p id ≡ true) → Tested g
  noted_since s d to all kept =
      record { rings = s.rings; law = s.kept; test = is_noted (noted to); all = are_kept (noted d) (noted to) kept (g.lists s.rings) all }

  -- and all buckets of a shelf are held
  abbrev pub held_in : BucketStore R g → Tested g
  held_in s = record { rings = s.rings.rings; law = s.rings.kept; test = held_item (look s.regions); all = s.whole }

  module _ (s : Tested g) (to : R) where
    abbrev old : ℕ → Option StoredItems
    old = g.lists s.rings

    abbrev new : ℕ → Option StoredItems
    new = g.lists to

    abbrev pub Pass : Type 0
    Pass = (n : ℕ) → list_all s.test (list_at (g.lists to) n) ≡ true

    abbrev pub Same : Type 0
    Same = (n : ℕ) → g.lists to n ≡ g.lists s.rings n

    -- what follows from either answer
    pub by_either : {A E : Type 0} (P : A → Type 0) (r : Result A E) → IfOk r P → OnErr r Same → ((a : A) → P a → Pass) → Pass
    by_either P (Ok a) ok err f = f a ok
    by_either P (Err e) ok err f = same_lists s.test old s.all new err

    pub by_result : {A E : Type 0} (P : Type 0) (r : Result A E) → OnOk r P → OnErr r Same → (P → Pass) → Pass
    by_result P (Ok a) ok err f = f ok
    by_result P (Err e) ok err f = same_lists s.test old s.all new err

    pub put_in : (put : StoredItem → StoredItems → StoredItems) → PutsIn put → (ring : ℕ) (x : StoredItem) → s.test x ≡ true → ((n : ℕ) → new n ≡ on ring (put x) old n) → Pass
    put_in put puts ring x e change = same_lists s.test (on ring (put x) old) (one_changed s.test old s.all ring (put x) (puts s.test x (list_at old ring) e)) new change

    -- a new bucket in a ring, or at another
    pub added : {E : Type 0} (put : StoredItem → StoredItems → StoredItems) → PutsIn put → (ring : ℕ) (x : Stored) → ((id : BucketId) → s.test (id, x) ≡ true)
        → (r : Result BucketId E) → IfOk r (λ id. (n : ℕ) → new n ≡ on ring (put (id, x)) old n) → OnErr r Same → Pass
    added put puts ring x is r ok err = by_either (λ id. (n : ℕ) → new n ≡ on ring (put (id, x)) old n) r ok err (λ id change. put_in put puts ring (id, x) (is id) change)

    pub added_at : {E : Type 0} (put : StoredItem → StoredItems → StoredItems) → PutsIn put → (place : BucketId)
        → is_some (g.ring_at s.rings place) ≡ true → (x : Stored) → ((id : BucketId) → s.test (id, x) ≡ true)
        → (r : Result BucketId E) → IfOk r (λ id. (b n : ℕ) → g.ring_at s.rings place ≡ Some b → new n ≡ on b (put (id, x)) old n) → OnErr r Same → Pass
    added_at put puts place there x is r ok err =
        let b = some_of (g.ring_at s.rings place) there in
        by_either (λ id. (b n : ℕ) → g.ring_at s.rings place ≡ Some b → new n ≡ on b (put (id, x)) old n) r ok err (λ id change. put_in put puts b.0 (id, x) (is id) (λ n. change b.0 n b.1))

    -- a ring without buckets, or none
    pub emptied : (ring : ℕ) → ((n : ℕ) → new n ≡ on ring (λ xs. []) old n) → Pass
    emptied ring change = same_lists s.test (on ring (λ xs. []) old) (one_changed s.test old s.all ring (λ xs. []) (λ a. refl)) new change

    pub ended : (ring : ℕ) → ((n : ℕ) → new n ≡ upd old ring None n) → Pass
    ended ring change = same_lists s.test (upd old ring None) (one_other s.test old s.all ring None refl) new change

    pub begun : {E : Type 0} (r : Result ℕ E) → IfOk r (λ ring. (n : ℕ) → new n ≡ upd old ring (Some []) n) → OnErr r Same → Pass
    begun r ok err = by_either (λ ring. (n : ℕ) → new n ≡ upd old ring (Some []) n) r ok err
        (λ ring change. same_lists s.test (upd old ring (Some [])) (one_other s.test old s.all ring (Some []) refl) new change)

    -- more behind the buckets of a ring
    pub joined_in : (ring : ℕ) (bs : StoredItems) → list_all s.test bs ≡ true → ((n : ℕ) → new n ≡ on ring (λ xs. xs ++ bs) old n) → Pass
    joined_in ring bs b change = same_lists s.test (on ring (λ xs. xs ++ bs) old) (one_changed s.test old s.all ring (λ xs. xs ++ bs) (λ a. all_joined s.test (list_at old ring) bs a b)) new change

    pub paired : (first second : ℕ) (bs : StoredItems) → list_all s.test bs ≡ true → ((n : ℕ) → new n ≡ upd (upd old first (Some [])) second (Some bs) n) → Pass
    paired first second bs b change =
        same_lists s.test (upd (upd old first (Some [])) second (Some bs)) (one_other s.test (upd old first (Some [])) (one_other s.test old s.all first (Some []) refl) second (Some bs) b) new change

    -- all buckets of a ring go to another
    pub spliced : (ring from : ℕ) → ((n : ℕ) → new n ≡ on ring (λ xs. xs ++ list_at old from) (on from (λ xs. []) old) n) → Pass
    spliced ring from change =
        let left = on from (λ xs. []) old in
        same_lists s.test (on ring (λ xs. xs ++ list_at old from) left)
        (one_changed s.test left (one_changed s.test old s.all from (λ xs. []) (λ a. refl)) ring (λ xs. xs ++ list_at old from)
        (λ a. all_joined s.test (list_at left ring) (list_at old from) a (s.all from))) new change

    -- What is done at a bucket that is there.
    module _ (id : BucketId) (there : is_some (g.ring_at s.rings id) ≡ true) where
      here : (q : ℕ) × (g.ring_at s.rings id ≡ Some q)
      here = some_of (g.ring_at s.rings id) there

      payload : (x : Stored) × (found id (list_at old here.0) ≡ Some x)
      payload = found_some id (list_at old here.0) (found_in (g.ring_at s.rings) old (g.next_name s.rings) s.law id here.0 here.1)

      pub moved : (put : StoredItem → StoredItems → StoredItems) → PutsIn put → (ring : ℕ)
          → ((q n : ℕ) (x : Stored) → g.ring_at s.rings id ≡ Some q → found id (list_at old q) ≡ Some x
          → new n ≡ on ring (put (id, x)) (on q (without id) old) n) → Pass
      moved put puts ring change =
          let q = here in
          let x = payload in
          let left = on q.0 (without id) old in
          same_lists s.test (on ring (put (id, x.0)) left)
          (one_changed s.test left (one_changed s.test old s.all q.0 (without id) (all_without s.test id (list_at old q.0))) ring (put (id, x.0))
          (puts s.test (id, x.0) (list_at left ring) (all_found s.test id x.0 (list_at old q.0) (s.all q.0) x.1)))
          new (λ n. change q.0 n x.0 q.1 x.1)

      changed_at : (f : StoredItems → StoredItems) → ((xs : StoredItems) → list_all s.test xs ≡ true → list_all s.test (f xs) ≡ true)
          → ((q n : ℕ) → g.ring_at s.rings id ≡ Some q → new n ≡ on q f old n) → Pass
      changed_at f step change = same_lists s.test (on here.0 f old) (one_changed s.test old s.all here.0 f (step (list_at old here.0))) new (λ n. change here.0 n here.1)

      pub dropped : ((q n : ℕ) → g.ring_at s.rings id ≡ Some q → new n ≡ on q (without id) old n) → Pass
      dropped = changed_at (without id) (all_without s.test id)

      pub replaced : (x : Stored) → s.test (id, x) ≡ true → ((q n : ℕ) → g.ring_at s.rings id ≡ Some q → new n ≡ on q (with_payload id x) old n) → Pass
      replaced x is = changed_at (with_payload id x) (λ xs. all_set s.test id x xs is)

      pub spliced_from : (ring : ℕ) → ((q n : ℕ) → g.ring_at s.rings id ≡ Some q → new n ≡ on ring (λ xs. xs ++ rest id (list_at old q)) (on q (front id) old) n) → Pass
      spliced_from ring change =
          let q = here in
          let left = on q.0 (front id) old in
          same_lists s.test (on ring (λ xs. xs ++ rest id (list_at old q.0)) left)
          (one_changed s.test left (one_changed s.test old s.all q.0 (front id) (all_front s.test id (list_at old q.0))) ring (λ xs. xs ++ rest id (list_at old q.0))
          (λ a. all_joined s.test (list_at left ring) (rest id (list_at old q.0)) a (all_rest s.test id (list_at old q.0) (s.all q.0))))
          new (λ n. change q.0 n q.1)

      pub moved_before : (place : BucketId) → is_some (g.ring_at s.rings place) ≡ true
          → ((r q n : ℕ) (x : Stored) → g.ring_at s.rings place ≡ Some r → g.ring_at s.rings id ≡ Some q → found id (list_at old q) ≡ Some x
          → new n ≡ (if same place id then old n else on r (put_before place (id, x)) (on q (without id) old) n)) → Pass
      moved_before place placed change = by_test (same place id) refl where
        r : (b : ℕ) × (g.ring_at s.rings place ≡ Some b)
        r = some_of (g.ring_at s.rings place) placed

        by_test : (b : Bool) → same place id ≡ b → Pass
        by_test true hit = same_lists s.test old s.all new (λ n. change r.0 here.0 n payload.0 r.1 here.1 payload.1 ∙ rw hit refl)
        by_test false miss = moved (put_before place) (λ p. all_before p place) r.0 (λ b n y in_b is. change r.0 b n y r.1 in_b is ∙ rw miss refl)

  -- a new bucket is put into a ring, and noted under the pools that it depends on
  pub new_noted : (s : Indexed R g) (d : Dependents) (to : R) (id : BucketId) (x : Stored) (place : Option ℕ) → ((p : ℕ) (j : BucketId) → noted s.dependents p j ≡ true → noted d p j ≡ true)
      → kind_under (λ p. noted d p id) x.kind ≡ true → home_under (λ p. noted d p id) x.home ≡ true → place ≡ place_of x.kept → place_under (λ p. noted d p id) place ≡ true
      → (put : StoredItem → StoredItems → StoredItems) → PutsIn put → (ring : ℕ) → ((n : ℕ) → g.lists to n ≡ on ring (put (id, x)) (g.lists s.rings) n) → AreNoted (noted d) (g.lists to)
  new_noted s d to id x place kept kind home place_is placed put puts ring change =
      put_in (noted_since s s.dependents d s.indexed kept) to put puts ring (id, x)
      (noted_item (noted d) id x kind home (ap (λ (q : Option ℕ). place_under (λ n. noted d n id) q) (sym place_is) ∙ placed)) change

  pub new_noted_at : (s : Indexed R g) (d : Dependents) (to : R) (id : BucketId) (x : Stored) (place : Option ℕ)
      → ((p : ℕ) (j : BucketId) → noted s.dependents p j ≡ true → noted d p j ≡ true)
      → kind_under (λ p. noted d p id) x.kind ≡ true → home_under (λ p. noted d p id) x.home ≡ true → place ≡ place_of x.kept → place_under (λ p. noted d p id) place ≡ true
      → (put : BucketId → StoredItem → StoredItems → StoredItems) → PutsAt put → (at : BucketId) → is_some (g.ring_at s.rings at) ≡ true
      → ((b n : ℕ) → g.ring_at s.rings at ≡ Some b → g.lists to n ≡ on b (put at (id, x)) (g.lists s.rings) n) → AreNoted (noted d) (g.lists to)
  new_noted_at s d to id x place kept kind home place_is placed put puts at there change =
      let b = some_of (g.ring_at s.rings at) there in
      new_noted s d to id x place kept kind home place_is placed (put at) (λ p. puts p at) b.0 (λ n. change b.0 n b.1)

  -- a new bucket is put into a ring of a shelf, whose bytes are placed, or at another bucket
  module _ (s : BucketStore R g) (to : R) (x : Stored) (whole : is_whole (look s.regions) x.kept ≡ true) (lies : lies_right x.kind x.kept ≡ true) where
    pub held_in_ring : {E : Type 0} (put : StoredItem → StoredItems → StoredItems) → PutsIn put → (ring : ℕ)
        → (r : Result BucketId E) → IfOk r (λ id. (n : ℕ) → g.lists to n ≡ on ring (put (id, x)) (g.lists s.rings.rings) n) → OnErr r (Same (held_in s) to) → Pass (held_in s) to
    held_in_ring put puts ring = added (held_in s) to put puts ring x (λ id. both whole lies)

    pub held_at : {E : Type 0} (put : BucketId → StoredItem → StoredItems → StoredItems) → PutsAt put → (at : BucketId) → is_some (g.ring_at s.rings.rings at) ≡ true
        → (r : Result BucketId E) → IfOk r (λ id. (b n : ℕ) → g.ring_at s.rings.rings at ≡ Some b → g.lists to n ≡ on b (put at (id, x)) (g.lists s.rings.rings) n)
        → OnErr r (Same (held_in s) to) → Pass (held_in s) to
    held_at put puts at there = added_at (held_in s) to (put at) (λ p. puts p at) at there x (λ id. both whole lies)
