-- What is true of the rings between two calls is true after each.
use Rattle.std.proofs.Common.{◌≡◌, ◌≢◌, ℕ, ◌+◌, ◌-◌, ◌^◌, ◌<◌, ◌≤◌, ◌⊎◌, Bool, true, false, if◌then◌else◌, Option, None, Some, is_some, List, [], ◌∷◌, ◌++◌, take, drop, length, refl, ap, sym, ◌∙◌}
use Rattle.std.proofs.Common.{arith, inl, inr}
use Rattle.std.proofs.lemmas.Bool.{cases_eq}
use Rattle.std.proofs.lemmas.List.{take-append-drop, length-append}
use Rattle.std.proofs.lemmas.Option.{same_Some}
use Rattle.std.specs.Option.{option_map}
use Rattle.bucket_ring.specs.declared.names.BucketId.{BucketId}
use Rattle.bucket_ring.specs.declared.links.Position.{Position}
use Rattle.bucket_ring.specs.declared.links.Links.{Links}
use Rattle.bucket_ring.specs.declared.slots.Slots.{Ghosts}
use Rattle.bucket_ring.specs.Lists.{upd, on, list_at, same, times, front, rest, without, found, payload_of}
use Rattle.bucket_ring.specs.Spots.{placed, picked}
use Rattle.bucket_ring.specs.Kept.{once_in, IsKept}
use Rattle.bucket_ring.specs.Laws.{same_slot, same_birth, same_name}
use Rattle.bucket_ring.specs.Walks.{id_of}
use Rattle.bucket_ring.specs.Links.{behind_of, before_of, mark_of, at_of, bucket_of, head_of, ring_at, lists_of, AreLinked}
use Rattle.bucket_ring.proofs.Counts.{parts}
use Rattle.bucket_ring.proofs.Counted.{items, upd_on, upd_off}
use Rattle.bucket_ring.proofs.Shown.{lists_counted}
use Rattle.bucket_ring.proofs.Kept.{shown_of}

pub mapped_some : {X : Type 0} (f : X → X) (o : Option X) → is_some (option_map f o) ≡ is_some o
mapped_some f None = refl
mapped_some f (Some x) = refl

pub pair_is : {T : Type 0} (b : BucketId × T) (id : BucketId) (x : T) → b.0 ≡ id → b.1 ≡ x → b ≡ (id, x)
pair_is b id x e f = ap (λ i. (i, b.1)) e ∙ ap (λ y. (id, y)) f

-- a bucket that was put in or taken out
pub was_taken : (id : BucketId) (at at2 : BucketId → Option ℕ) → ((j : BucketId) → at2 j ≡ (if same id j then None else at j)) → (j : BucketId) → is_some (at2 j) ≡ true → is_some (at j) ≡ true
was_taken id at at2 at_new j h = go (same id j) (sym (ap is_some (at_new j)) ∙ h) where
  go : (b : Bool) → is_some (if b then None else at j) ≡ true → is_some (at j) ≡ true
  go true h = cc
  go false h = h

pub was_put : (id : BucketId) (r : ℕ) (at at2 : BucketId → Option ℕ) → ((j : BucketId) → at2 j ≡ (if same id j then Some r else at j)) → (j : BucketId) → is_some (at2 j) ≡ true
    → (same id j ≡ true) ⊎ (is_some (at j) ≡ true)
was_put id r at at2 at_new j h = go (same id j) refl (sym (ap is_some (at_new j)) ∙ h) where
  go : (b : Bool) → same id j ≡ b → is_some (if b then Some r else at j) ≡ true → (same id j ≡ true) ⊎ (is_some (at j) ≡ true)
  go true e h = inl e
  go false e h = inr h

-- a bucket that goes to another ring
pub was_moved : (id : BucketId) (r : ℕ) (at at2 : BucketId → Option ℕ) → is_some (at id) ≡ true → ((j : BucketId) → at2 j ≡ (if same id j then Some r else at j)) → (j : BucketId)
    → is_some (at2 j) ≡ true → is_some (at j) ≡ true
was_moved id r at at2 there moved j h =
    elim (was_put id r at at2 moved j h) [
      | inl is ↦ ap (λ (i : BucketId). is_some (at i)) (sym (same_name id j is)) ∙ there
      | inr old ↦ old
    ]

module _ {T : Type 0} where
  pub upd_some : (lists new : ℕ → Option (List (BucketId × T))) (q : ℕ) (w : Option (List (BucketId × T))) → ((n : ℕ) → new n ≡ upd lists q w n) → (is_some w ≡ true → is_some (lists q) ≡ true)
      → (r : ℕ) → is_some (new r) ≡ true → is_some (lists r) ≡ true
  upd_some lists new q w lists_new some r h =
      elim (cases_eq r q) [
        | inl e ↦ rw e (some (sym (ap is_some (ap new e ∙ lists_new q ∙ upd_on lists q w)) ∙ h))
        | inr ne ↦ sym (ap is_some (lists_new r ∙ upd_off lists q w r ne)) ∙ h
      ]

  -- no ring comes or goes where one list changes
  pub on_was : (q : ℕ) (f : List (BucketId × T) → List (BucketId × T)) (lists new : ℕ → Option (List (BucketId × T))) → ((n : ℕ) → new n ≡ on q f lists n) → (r : ℕ) → is_some (new r) ≡ true
      → is_some (lists r) ≡ true
  on_was q f lists new lists_new r h = upd_some lists new q (option_map f (lists q)) lists_new (λ h. sym (mapped_some f (lists q)) ∙ h) r h

  pub on_some : (q : ℕ) (f : List (BucketId × T) → List (BucketId × T)) (lists new : ℕ → Option (List (BucketId × T))) → ((n : ℕ) → new n ≡ on q f lists n) → (r : ℕ) → is_some (lists r) ≡ true
      → is_some (new r) ≡ true
  on_some q f lists new lists_new r h =
      elim (cases_eq r q) [
        | inl e ↦ rw e (ap is_some (lists_new q ∙ upd_on lists q (option_map f (lists q))) ∙ mapped_some f (lists q) ∙ ap (λ k. is_some (lists k)) (sym e) ∙ h)
        | inr ne ↦ ap is_some (lists_new r ∙ upd_off lists q (option_map f (lists q)) r ne) ∙ h
      ]

  -- the list of a ring that is changed, and of another
  pub list_on : (q : ℕ) (f : List (BucketId × T) → List (BucketId × T)) (lists new : ℕ → Option (List (BucketId × T))) → ((n : ℕ) → new n ≡ on q f lists n) → is_some (lists q) ≡ true
      → list_at new q ≡ f (list_at lists q)
  list_on q f lists new lists_new h = ap items (lists_new q ∙ upd_on lists q (option_map f (lists q))) ∙ go (lists q) h where
    go : (o : Option (List (BucketId × T))) → is_some o ≡ true → items (option_map f o) ≡ f (items o)
    go None h = cc
    go (Some bs) h = refl

  pub list_off : (q : ℕ) (f : List (BucketId × T) → List (BucketId × T)) (lists new : ℕ → Option (List (BucketId × T))) → ((n : ℕ) → new n ≡ on q f lists n) → (r : ℕ) → r ≢ q
      → list_at new r ≡ list_at lists r
  list_off q f lists new lists_new r ne = ap items (lists_new r ∙ upd_off lists q (option_map f (lists q)) r ne)

  pub on_same : (r n : ℕ) (f : List (BucketId × T) → List (BucketId × T)) (lists new : ℕ → Option (List (BucketId × T))) → ((n : ℕ) → new n ≡ lists n) → on r f new n ≡ on r f lists n
  on_same r n f lists new e =
      elim (cases_eq n r) [
        | inl here ↦ rw here (upd_on new r (option_map f (new r)) ∙ ap (option_map f) (e r) ∙ sym (upd_on lists r (option_map f (lists r))))
        | inr ne ↦ upd_off new r (option_map f (new r)) n ne ∙ e n ∙ sym (upd_off lists r (option_map f (lists r)) n ne)
      ]

  -- two changes that do the same to the list of a ring
  pub on_as : (r n : ℕ) (f g : List (BucketId × T) → List (BucketId × T)) (lists : ℕ → Option (List (BucketId × T))) → f (list_at lists r) ≡ g (list_at lists r) → on r f lists n ≡ on r g lists n
  on_as r n f g lists e = ap (λ (w : Option (List (BucketId × T))). upd lists r w n) (go (lists r) e) where
    go : (o : Option (List (BucketId × T))) → f (items o) ≡ g (items o) → option_map f o ≡ option_map g o
    go None e = refl
    go (Some bs) e = ap Some e

  pub on_nothing : (r n : ℕ) (f : List (BucketId × T) → List (BucketId × T)) (lists : ℕ → Option (List (BucketId × T))) → f (list_at lists r) ≡ list_at lists r → on r f lists n ≡ lists n
  on_nothing r n f lists e =
      elim (cases_eq n r) [
        | inl here ↦ rw here (upd_on lists r (option_map f (lists r)) ∙ go (lists r) e)
        | inr ne ↦ upd_off lists r (option_map f (lists r)) n ne
      ] where
        go : (o : Option (List (BucketId × T))) → f (items o) ≡ items o → option_map f o ≡ o
        go None e = refl
        go (Some bs) e = ap Some e

  pub on_twice : (r n : ℕ) (f g : List (BucketId × T) → List (BucketId × T)) (lists : ℕ → Option (List (BucketId × T))) → f (g (list_at lists r)) ≡ list_at lists r → on r f (on r g lists) n ≡ lists n
  on_twice r n f g lists e =
      elim (cases_eq n r) [
        | inl here ↦ rw here (upd_on (on r g lists) r (option_map f (on r g lists r)) ∙ ap (option_map f) (upd_on lists r (option_map g (lists r))) ∙ go (lists r) e)
        | inr ne ↦ upd_off (on r g lists) r (option_map f (on r g lists r)) n ne ∙ upd_off lists r (option_map g (lists r)) n ne
      ] where
        go : (o : Option (List (BucketId × T))) → f (g (items o)) ≡ items o → option_map f (option_map g o) ≡ o
        go None e = refl
        go (Some bs) e = ap Some e

  one_found : (s : Bool) (b : BucketId × T) (id : BucketId) (x : T) (bs cs : List (BucketId × T)) → same b.0 id ≡ s → (payload_of cs ≡ Some x → take 1 cs ≡ (id, x) ∷ [])
      → payload_of (if s then b ∷ bs else cs) ≡ Some x → take 1 (if s then b ∷ bs else cs) ≡ (id, x) ∷ []
  one_found true b id x bs cs e later h = ap (λ y. y ∷ []) (pair_is b id x (same_name b.0 id e) (same_Some b.1 x h))
  one_found false b id x bs cs e later h = later h

  -- the bucket that is taken out, with its payload
  pub picked_found : (id : BucketId) (x : T) (bs : List (BucketId × T)) → found id bs ≡ Some x → picked id bs ≡ (id, x) ∷ []
  picked_found id x [] h = cc
  picked_found id x (b ∷ bs) h = one_found (same b.0 id) b id x bs (rest id bs) refl (picked_found id x bs) h

  -- a list around a bucket that is found
  pub view : (id : BucketId) (x : T) (bs : List (BucketId × T)) → found id bs ≡ Some x → rest id bs ≡ (id, x) ∷ drop 1 (rest id bs)
  view id x bs h = sym (take-append-drop 1 (rest id bs)) ∙ ap (λ (cs : List (BucketId × T)). cs ++ drop 1 (rest id bs)) (picked_found id x bs h)

  pub without_shorter : (id : BucketId) (x : T) (bs : List (BucketId × T)) → found id bs ≡ Some x → length (without id bs) + 1 ≡ length bs
  without_shorter id x bs h = omega (arith, length-append (front id bs) (drop 1 (rest id bs)), length-append (front id bs) (rest id bs), ap length (parts id bs), ap length (view id x bs h))

  -- a list that was made shorter
  pub on_shorter : (q : ℕ) (id : BucketId) (lists new : ℕ → Option (List (BucketId × T))) → ((n : ℕ) → new n ≡ on q (without id) lists n) → (r : ℕ) → length (list_at new r) ≤ length (list_at lists r)
  on_shorter q id lists new lists_new r =
      elim (cases_eq r q) [
        | inl e ↦ rw e (omega (arith, ap (λ o. length (items o)) (lists_new q ∙ upd_on lists q (option_map (without id) (lists q))), mapped_less (lists q)))
        | inr ne ↦ omega (arith, ap (λ o. length (items o)) (lists_new r ∙ upd_off lists q (option_map (without id) (lists q)) r ne))
      ] where
        less : (bs : List (BucketId × T)) → length (without id bs) ≤ length bs
        less bs = omega (
          arith,
          length-append (front id bs) (drop 1 (rest id bs)),
          length-append (take 1 (rest id bs)) (drop 1 (rest id bs)),
          ap length (take-append-drop 1 (rest id bs)),
          length-append (front id bs) (rest id bs),
          ap length (parts id bs),
        )

        mapped_less : (o : Option (List (BucketId × T))) → length (items (option_map (without id) o)) ≤ length (items o)
        mapped_less None = omega arith
        mapped_less (Some bs) = less bs

  pub shifted : (lists between new : ℕ → Option (List (BucketId × T))) (q r n : ℕ) (position : Position) (id : BucketId) (x y : T) (birth : ℕ) → birth ≡ id.birth
      → found id (list_at lists q) ≡ Some y → found id (list_at lists q) ≡ Some x
      → ((n : ℕ) → between n ≡ on q (without id) lists n) → ((n : ℕ) → new n ≡ on r (placed position ((id_of id.slot birth, y) ∷ [])) between n)
      → new n ≡ on r (placed position ((id, x) ∷ [])) (on q (without id) lists) n
  shifted lists between new q r n position id x y birth e had is taken put =
      put n ∙ on_same r n (placed position ((id_of id.slot birth, y) ∷ [])) (on q (without id) lists) between taken
      ∙ ap (λ (b : BucketId × T). on r (placed position (b ∷ [])) (on q (without id) lists) n) (pair_is (id_of id.slot birth, y) id x (ap (id_of id.slot) e) (same_Some y x (sym had ∙ is)))

  -- all of a ring goes
  pub on_over : (r n : ℕ) (f : List (BucketId × T) → List (BucketId × T)) (lists : ℕ → Option (List (BucketId × T))) → on r (λ bs. []) (on r f lists) n ≡ on r (λ bs. []) lists n
  on_over r n f lists =
      elim (cases_eq n r) [
        | inl e ↦ rw e (upd_on (on r f lists) r (option_map (λ bs. []) (on r f lists r)) ∙ ap (option_map (λ (bs : List (BucketId × T)). let none : List (BucketId × T) = [] in none))
            (upd_on lists r (option_map f (lists r))) ∙ go (lists r) ∙ sym (upd_on lists r (option_map (λ bs. []) (lists r))))
        | inr ne ↦ upd_off (on r f lists) r (option_map (λ bs. []) (on r f lists r)) n ne ∙ upd_off lists r (option_map f (lists r)) n ne ∙ sym (upd_off lists r (option_map (λ bs. []) (lists r)) n ne)
      ] where
        go : (o : Option (List (BucketId × T))) → option_map (λ (bs : List (BucketId × T)). let none : List (BucketId × T) = [] in none) (option_map f o) ≡ option_map
            (λ (bs : List (BucketId × T)). let none : List (BucketId × T) = [] in none) o
        go None = refl
        go (Some bs) = refl

  -- a ring that was emptied ends
  pub emptied : (r : ℕ) (lists new : ℕ → Option (List (BucketId × T))) → ((n : ℕ) → new n ≡ on r (λ bs. []) lists n) → is_some (lists r) ≡ true → new r ≡ Some []
  emptied r lists new lists_new there = lists_new r ∙ upd_on lists r (option_map (λ bs. []) (lists r)) ∙ go (lists r) there where
    go : (o : Option (List (BucketId × T))) → is_some o ≡ true → option_map (λ (bs : List (BucketId × T)). let none : List (BucketId × T) = [] in none) o ≡ Some []
    go None h = cc
    go (Some bs) h = refl

  pub ended : (r n : ℕ) (lists mid : ℕ → Option (List (BucketId × T))) → ((n : ℕ) → mid n ≡ on r (λ bs. []) lists n) → upd mid r None n ≡ upd lists r None n
  ended r n lists mid mid_is =
      elim (cases_eq n r) [
        | inl e ↦ rw e (upd_on mid r None ∙ sym (upd_on lists r None))
        | inr ne ↦ upd_off mid r None n ne ∙ mid_is n ∙ upd_off lists r (option_map (λ bs. []) (lists r)) n ne ∙ sym (upd_off lists r None n ne)
      ]

  pub ended_was : (r : ℕ) (lists new : ℕ → Option (List (BucketId × T))) → ((n : ℕ) → new n ≡ upd lists r None n) → (q : ℕ) → is_some (new q) ≡ true → is_some (lists q) ≡ true
  ended_was r lists new lists_new q h = upd_some lists new r None lists_new (λ h. cc) q h

module _ {T N : Type 0} {g : Ghosts N T} where
  pub links_counted : (s : Links T N g) → AreLinked s → (id : BucketId) (r : ℕ) → times id (list_at (lists_of s) r) ≡ once_in r (ring_at s id)
  unfolding lists_of ring_at
  links_counted s linked id r = lists_counted (bucket_of s) (mark_of s) (at_of s) (shown_of s) (behind_of s) (before_of s) (head_of s) linked id r

  -- each call in which no bucket and no ring is new
  pub kept_still : (s t : Links T N g) (next : ℕ) → AreLinked t → ((j : BucketId) → is_some (ring_at t j) ≡ true → is_some (ring_at s j) ≡ true)
      → ((r : ℕ) → is_some (lists_of t r) ≡ true → is_some (lists_of s r) ≡ true)
      → IsKept (ring_at s) (lists_of s) next → IsKept (ring_at t) (lists_of t) next
  kept_still s t next linked was_there was_ring kept = record {
    counted = links_counted t linked;
    young = λ j h. kept.young j (was_there j h);
    births = λ i j hi hj e. kept.births i j (was_there i hi) (was_there j hj) e;
    rings = λ r h. kept.rings r (was_ring r h);
    limit = kept.limit;
  }

  pub kept_same : (s t : Links T N g) (next : ℕ) → AreLinked t → ((n : ℕ) → lists_of t n ≡ lists_of s n) → ((j : BucketId) → ring_at t j ≡ ring_at s j) → IsKept (ring_at s) (lists_of s) next
      → IsKept (ring_at t) (lists_of t) next
  kept_same s t next linked lists places kept = kept_still s t next linked (λ j h. sym (ap is_some (places j)) ∙ h) (λ r h. sym (ap is_some (lists r)) ∙ h) kept

  -- a ring is new
  pub kept_ring : (s t : Links T N g) (next : ℕ) → AreLinked t → ((n : ℕ) → lists_of t n ≡ upd (lists_of s) next (Some []) n) → ((j : BucketId) → ring_at t j ≡ ring_at s j) → next < 2 ^ 64 - 1
      → IsKept (ring_at s) (lists_of s) next → IsKept (ring_at t) (lists_of t) (next + 1)
  kept_ring s t next linked lists places unspent kept = record {
    counted = links_counted t linked;
    young = λ j h. let young : j.birth < next = kept.young j (sym (ap is_some (places j)) ∙ h) in omega arith;
    births = λ i j hi hj e. kept.births i j (sym (ap is_some (places i)) ∙ hi) (sym (ap is_some (places j)) ∙ hj) e;
    rings = λ r h. elim (cases_eq r next) [
      | inl e ↦ omega arith
      | inr ne ↦ let named : r < next = kept.rings r (sym (ap is_some (lists r ∙ upd_off (lists_of s) next (Some []) r ne)) ∙ h) in omega arith
    ];
    limit = omega (arith, unspent);
  }

  -- a bucket is new
  module _ (s t : Links T N g) (next r : ℕ) (id : BucketId) (linked : AreLinked t) (was_ring : (n : ℕ) → is_some (lists_of t n) ≡ true → is_some (lists_of s n) ≡ true)
      (at_new : (j : BucketId) → ring_at t j ≡ (if same id j then Some r else ring_at s j))
      (kept : IsKept (ring_at s) (lists_of s) next) (birth : id.birth ≡ next) (unspent : next < 2 ^ 64 - 1) where
    old_or_new : (j : BucketId) → is_some (ring_at t j) ≡ true → (same id j ≡ true) ⊎ (is_some (ring_at s j) ≡ true)
    old_or_new j h = was_put id r (ring_at s) (ring_at t) at_new j h

    still_young : (j : BucketId) → is_some (ring_at t j) ≡ true → j.birth < next + 1
    still_young j h =
        elim (old_or_new j h) [
          | inl e ↦ omega (arith, same_birth id j e, birth)
          | inr old ↦ omega (arith, kept.young j old)
        ]

    still_births : (i j : BucketId) → is_some (ring_at t i) ≡ true → is_some (ring_at t j) ≡ true → i.birth ≡ j.birth → i.slot ≡ j.slot
    still_births i j hi hj e =
        elim (old_or_new i hi) [
          | inl new_i ↦ elim (old_or_new j hj) [
            | inl new_j ↦ sym (same_slot id i new_i) ∙ same_slot id j new_j
            | inr old_j ↦ absurd (omega (arith, same_birth id i new_i, kept.young j old_j, birth))
          ]
          | inr old_i ↦ elim (old_or_new j hj) [
            | inl new_j ↦ absurd (omega (arith, same_birth id j new_j, kept.young i old_i, birth))
            | inr old_j ↦ kept.births i j old_i old_j e
          ]
        ]

    pub kept_added : IsKept (ring_at t) (lists_of t) (next + 1)
    kept_added = record {
      counted = links_counted t linked;
      young = still_young;
      births = still_births;
      rings = λ n h. let named : n < next = kept.rings n (was_ring n h) in omega arith;
      limit = omega (arith, unspent);
    }

  pub nothing_kept : (s : Links T N g) (next : ℕ) → AreLinked s → ((n : ℕ) → lists_of s n ≡ None) → ((id : BucketId) → ring_at s id ≡ None) → next < 2 ^ 64 → IsKept (ring_at s) (lists_of s) next
  nothing_kept s next linked lists places limit = record {
    counted = links_counted s linked;
    young = λ j h. let clash : false ≡ true = sym (ap is_some (places j)) ∙ h in absurd (cc);
    births = λ i j hi hj e. let clash : false ≡ true = sym (ap is_some (places i)) ∙ hi in absurd (cc);
    rings = λ r h. let clash : false ≡ true = sym (ap is_some (lists r)) ∙ h in absurd (cc);
    limit = limit;
  }
