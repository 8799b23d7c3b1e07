-- The free nodes, where one node changes.
use Rattle.std.proofs.Common.{◌≡◌, ◌≢◌, ℕ, zero, suc, ◌+◌, ◌-◌, ◌<◌, ◌≤◌, true, List, ◌∷◌, Option, None, Some, is_some, refl, ap, sym, subst, ◌∙◌, arith, inl, inr}
use Rattle.std.proofs.lemmas.Bool.{cases_eq}
use Rattle.std.proofs.lemmas.Option.{same_Some}
use Rattle.std.specs.Option.{option_map_or}
use Rattle.raw_block.specs.Maps.{upd}
use Rattle.raw_block.specs.declared.block.Block.{Block}
use Rattle.raw_block.specs.Blocks.{at}
use Rattle.raw_nodes.specs.declared.node.Node.{Node}
use Rattle.raw_nodes.specs.declared.node.Load.{Load}
use Rattle.raw_nodes.specs.declared.node.Load.TheVariants.{Free, Sentinel, Bucket}
use Rattle.raw_nodes.specs.Free.{walk, count, free_load, once_free, used_as, used, place, size, behind, IsListed}
use Rattle.raw_block.proofs.Maps.{upd_on, upd_off}
use Rattle.raw_nodes.proofs.Counts.{count_here, count_past, pigeons, walk_length, walk_same}

module _ {T : Type 0} where
  free_most : (o : Option (Node T)) → once_free o ≤ 1
  free_most None = omega arith
  free_most (Some n) = go n.load where
    go : (l : Load T) → free_load l ≤ 1
    go Free = omega arith
    go Sentinel = omega arith
    go (Bucket b) = omega arith

  free_some : (o : Option (Node T)) → 0 < once_free o → is_some o ≡ true
  free_some None h = absurd (omega (arith, h))
  free_some (Some n) h = refl

  -- there are no more free nodes than places
  pub spare_within : (p : ℕ → Option (Node T)) (free spare len : ℕ) → IsListed p free spare len → spare ≤ len
  spare_within p free spare len l =
      let ks = walk (behind p) free spare in
      omega (arith, walk_length (behind p) free spare, pigeons len ks (λ j. omega (arith, l.listed j, free_most (p j))) (λ j some. l.within j (free_some (p j) (omega (arith, some, l.listed j)))))

  behind_off : (p q : ℕ → Option (Node T)) (k : ℕ) (w : Option (Node T)) → ((j : ℕ) → q j ≡ upd p k w j) → (j : ℕ) → j ≢ k → behind q j ≡ behind p j
  behind_off p q k w new j ne = ap (λ (o : Option (Node T)). option_map_or (λ (n : Node T). n.behind) o j) (new j ∙ upd_off p k w j ne)

  module _ (p q : ℕ → Option (Node T)) (k len : ℕ) (m : Node T) (new : (j : ℕ) → q j ≡ upd p k (Some m) j) where
    there : q k ≡ Some m
    there = new k ∙ upd_on p k (Some m)

    off : (j : ℕ) → j ≢ k → q j ≡ p j
    off j ne = new j ∙ upd_off p k (Some m) j ne

    full_as : ((j : ℕ) → j < len → j ≢ k → is_some (p j) ≡ true) → (j : ℕ) → j < len → is_some (q j) ≡ true
    full_as full j lt =
        elim (cases_eq j k) [
          | inl e ↦ ap (λ i. is_some (q i)) e ∙ ap is_some there
          | inr ne ↦ ap is_some (off j ne) ∙ full j lt ne
        ]

    within_as : k < len → ((j : ℕ) → is_some (p j) ≡ true → j < len) → (j : ℕ) → is_some (q j) ≡ true → j < len
    within_as lt within j some =
        elim (cases_eq j k) [
          | inl e ↦ omega (arith, e, lt)
          | inr ne ↦ within j (sym (ap is_some (off j ne)) ∙ some)
        ]

    -- a walk that does not come to k
    walk_off : (t n : ℕ) → count k (walk (behind p) t n) ≡ 0 → walk (behind q) t n ≡ walk (behind p) t n
    walk_off t n none = walk_same (behind p) (behind q) t n (λ j some. behind_off p q k (Some m) new j (λ e. absurd (omega (arith, some, none, ap (λ i. count i (walk (behind p) t n)) e))))

    -- a node that is not free is written over by one that is not
    pub kept : (free spare : ℕ) → IsListed p free spare len → is_some (p k) ≡ true → once_free (p k) ≡ 0 → free_load m.load ≡ 0 → IsListed q free spare len
    kept free spare l some was is = record {
      full = full_as (λ j lt ne. l.full j lt);
      within = within_as (l.within k some) l.within;
      listed = λ j. ap (count j) (walk_off free spare (l.listed k ∙ was)) ∙ l.listed j ∙ elim (cases_eq j k) [
        | inl e ↦ ap (λ i. once_free (p i)) e ∙ was ∙ sym (ap (λ i. once_free (q i)) e ∙ ap once_free there ∙ is)
        | inr ne ↦ ap once_free (sym (off j ne))
      ];
    }

    -- the first free node is free no more
    pub taken : (spare less : ℕ) → IsListed p k spare len → less + 1 ≡ spare → is_some (p k) ≡ true → free_load m.load ≡ 0 → IsListed q (behind p k) less len
    taken spare less l one some is = go (subst (λ s. IsListed p k s len) (sym one ∙ omega arith) l) where
      go : IsListed p k (suc less) len → IsListed q (behind p k) less len
      go l =
          let ks = walk (behind p) (behind p k) less in
          let none : count k ks ≡ 0 = omega (arith, count_here k ks, l.listed k, free_most (p k)) in
          record {
            full = full_as (λ j lt ne. l.full j lt);
            within = within_as (l.within k some) l.within;
            listed = λ j. ap (count j) (walk_off (behind p k) less none) ∙ elim (cases_eq j k) [
              | inl e ↦ ap (λ i. count i ks) e ∙ none ∙ sym (ap (λ i. once_free (q i)) e ∙ ap once_free there ∙ is)
              | inr ne ↦ sym (count_past k j ks (λ e. ne (sym e))) ∙ l.listed j ∙ ap once_free (sym (off j ne))
            ];
          }

    -- a node comes to be the first free one
    pub freed : (free spare old : ℕ) → IsListed p free spare old → once_free (p k) ≡ 0 → free_load m.load ≡ 1 → m.behind ≡ free → k < len → old ≤ len → ((j : ℕ) → j < len → j ≢ k → j < old)
        → IsListed q k (spare + 1) len
    freed free spare old l was is links lt more others = go (spare + 1) (omega arith) where
      ks : List ℕ
      ks = walk (behind p) free spare

      leads : behind q k ≡ free
      leads = ap (λ (o : Option (Node T)). option_map_or (λ (n : Node T). n.behind) o k) there ∙ links

      whole : walk (behind q) k (suc spare) ≡ k ∷ ks
      whole = ap (λ i. k ∷ walk (behind q) i spare) leads ∙ ap (λ (is : List ℕ). k ∷ is) (walk_off free spare (l.listed k ∙ was))

      go : (n : ℕ) → n ≡ suc spare → IsListed q k n len
      go n e = record {
        full = full_as (λ j j_lt ne. l.full j (others j j_lt ne));
        within = within_as lt (λ j some. omega (arith, l.within j some, more));
        listed = λ j. ap (λ i. count j (walk (behind q) k i)) e ∙ ap (count j) whole ∙ elim (cases_eq j k) [
          | inl same ↦ ap (λ i. count i (k ∷ ks)) same ∙ count_here k ks ∙ ap suc (l.listed k ∙ was) ∙ sym (ap (λ i. once_free (q i)) same ∙ ap once_free there ∙ is)
          | inr ne ↦ count_past k j ks (λ h. ne (sym h)) ∙ l.listed j ∙ ap once_free (sym (off j ne))
        ];
      }

  -- a node that is used, and one that is not
  pub used_is : (o : Option (Node T)) → is_some (used o) ≡ true → (n : Node T) × (o ≡ Some n) × (free_load n.load ≡ 0)
  used_is None h = absurd (cc)
  used_is (Some n) h = go n.load refl where
    go : (l : Load T) → n.load ≡ l → (m : Node T) × (Some n ≡ Some m) × (free_load m.load ≡ 0)
    go Free e = let f : used_as n n.load ≡ None = ap (used_as n) e in absurd (cc)
    go Sentinel e = (n, refl, ap free_load e)
    go (Bucket b) e = (n, refl, ap free_load e)

  pub used_some : (n : Node T) → free_load n.load ≡ 0 → used (Some n) ≡ Some n
  used_some n h = go n.load refl where
    go : (l : Load T) → n.load ≡ l → used_as n n.load ≡ Some n
    go Free e = absurd (omega (arith, h, ap free_load e))
    go Sentinel e = ap (used_as n) e
    go (Bucket b) e = ap (used_as n) e

  pub used_none : (o : Option (Node T)) → once_free o ≡ 1 → used o ≡ None
  used_none None h = refl
  used_none (Some n) h = go n.load refl where
    go : (l : Load T) → n.load ≡ l → used_as n n.load ≡ None
    go Free e = ap (used_as n) e
    go Sentinel e = absurd (omega (arith, h, ap free_load e))
    go (Bucket b) e = absurd (omega (arith, h, ap free_load e))

  pub used_new : (p q : ℕ → Option (Node T)) (k : ℕ) (w : Option (Node T)) → ((j : ℕ) → q j ≡ upd p k w j) → (j : ℕ) → used (q j) ≡ upd (λ i. used (p i)) k (used w) j
  used_new p q k w new j =
      elim (cases_eq j k) [
        | inl e ↦ rw e (ap used (new k ∙ upd_on p k w) ∙ sym (upd_on (λ i. used (p i)) k (used w)))
        | inr ne ↦ ap used (new j ∙ upd_off p k w j ne) ∙ sym (upd_off (λ i. used (p i)) k (used w) j ne)
      ]

  -- a node that is used is changed, and stays used
  pub changed : (o : Option (Block (Node T))) (b t : Block (Node T)) (k free spare : ℕ) (f : Node T → Node T) → o ≡ Some b → IsListed (place o) free spare (size o) → is_some (used (place o k)) ≡ true
      → ((n : Node T) → at b k ≡ Some n → (j : ℕ) → at t j ≡ upd (at b) k (Some (f n)) j) → t.len ≡ b.len → ((n : Node T) → free_load n.load ≡ 0 → free_load (f n).load ≡ 0)
      → IsListed (place (Some t)) free spare t.len × ((n : Node T) → used (place o k) ≡ Some n → (j : ℕ) → used (place (Some t) j) ≡ upd (λ i. used (place o i)) k (Some (f n)) j)
  unfolding place
  changed o b t k free spare f is l some new len stays =
      subst (λ (o : Option (Block (Node T))). IsListed (place o) free spare (size o) → is_some (used (place o k)) ≡ true → IsListed (at t) free spare t.len
      × ((n : Node T) → used (place o k) ≡ Some n → (j : ℕ) → used (at t j) ≡ upd (λ i. used (place o i)) k (Some (f n)) j)) (sym is) core l some
    where
      core : IsListed (at b) free spare b.len → is_some (used (at b k)) ≡ true → IsListed (at t) free spare t.len
          × ((n : Node T) → used (at b k) ≡ Some n → (j : ℕ) → used (at t j) ≡ upd (λ i. used (at b i)) k (Some (f n)) j)
      core l some =
          let u = used_is (at b k) some in
          let step : (j : ℕ) → at t j ≡ upd (at b) k (Some (f u.0)) j = new u.0 u.1 in (
            subst (λ i. IsListed (at t) free spare i) (sym len) (kept (at b) (at t) k b.len (f u.0) step free spare l (ap is_some u.1) (ap once_free u.1 ∙ u.2) (stays u.0 u.2)),
            λ n is j. let it : u.0 ≡ n = same_Some u.0 n (sym (used_some u.0 u.2) ∙ ap used (sym u.1) ∙ is) in
                used_new (at b) (at t) k (Some (f u.0)) step j ∙ ap (λ w. upd (λ i. used (at b i)) k w j) (used_some (f u.0) (stays u.0 u.2) ∙ ap (λ m. Some (f m)) it),
          )

  -- the first free node is there, and free
  pub first_free : (p : ℕ → Option (Node T)) (free spare len : ℕ) → IsListed p free spare len → 0 < spare → once_free (p free) ≡ 1
  first_free p free zero len l some = absurd (omega (arith, some))
  first_free p free (suc n) len l some = omega (arith, l.listed free, count_here free (walk (behind p) (behind p free) n), free_most (p free))

  pub is_free : (o : Option (Node T)) → once_free o ≡ 1 → is_some o ≡ true
  is_free o h = free_some o (omega (arith, h))

  -- the first free node of a block is written over
  pub taken_in : (o : Option (Block (Node T))) (b t : Block (Node T)) (free spare : ℕ) (n m : Node T) → o ≡ Some b → IsListed (place o) free spare (size o) → 0 < spare → at b free ≡ Some n
      → ((j : ℕ) → at t j ≡ upd (at b) free (Some m) j) → t.len ≡ b.len → free_load m.load ≡ 0
      → IsListed (place (Some t)) n.behind (spare - 1) t.len
  unfolding place
  taken_in o b t free spare n m is l some was new len load =
      subst (λ (o : Option (Block (Node T))). IsListed (place o) free spare (size o) → IsListed (at t) n.behind (spare - 1) t.len) (sym is)
      (λ l. subst (λ i. IsListed (at t) n.behind (spare - 1) i) (sym len) (subst (λ (w : Option (Node T)). IsListed (at t) (option_map_or (λ (x : Node T). x.behind) w free) (spare - 1) b.len) was
      (taken (at b) (at t) free b.len m new spare (spare - 1) l (omega (arith, some)) (ap is_some was) load))) l

  -- a node of a block is freed
  pub freed_in : (o : Option (Block (Node T))) (b t : Block (Node T)) (k free spare : ℕ) (m : Node T) → o ≡ Some b → IsListed (place o) free spare (size o) → is_some (used (place o k)) ≡ true
      → ((j : ℕ) → at t j ≡ upd (at b) k (Some m) j) → t.len ≡ b.len → free_load m.load ≡ 1 → m.behind ≡ free
      → IsListed (place (Some t)) k (spare + 1) t.len
  unfolding place
  freed_in o b t k free spare m is l some new len load links =
      subst (λ (o : Option (Block (Node T))). IsListed (place o) free spare (size o) → is_some (used (place o k)) ≡ true → IsListed (at t) k (spare + 1) t.len) (sym is)
      (λ l some. let u = used_is (at b k) some in
      subst (λ i. IsListed (at t) k (spare + 1) i) (sym len)
      (freed (at b) (at t) k b.len m new free spare b.len l (ap once_free u.1 ∙ u.2) load links (l.within k (ap is_some u.1)) (omega arith) (λ j lt ne. lt))) l some

  pub listed_as : (p q : ℕ → Option (Node T)) (free spare len : ℕ) → ((k : ℕ) → q k ≡ p k) → IsListed p free spare len → IsListed q free spare len
  listed_as p q free spare len e l = record {
    full = λ k lt. ap is_some (e k) ∙ l.full k lt;
    within = λ k some. l.within k (sym (ap is_some (e k)) ∙ some);
    listed = λ k. ap (count k) (walk_same (behind p) (behind q) free spare (λ j some. ap (λ (o : Option (Node T)). option_map_or (λ (n : Node T). n.behind) o j) (e j))) ∙ l.listed k
        ∙ sym (ap once_free (e k));
  }

  -- no node is past the places
  pub past : (p : ℕ → Option (Node T)) (free spare len k : ℕ) → IsListed p free spare len → len ≤ k → once_free (p k) ≡ 0
  past p free spare len k l le = go (p k) refl where
    go : (o : Option (Node T)) → p k ≡ o → once_free o ≡ 0
    go None e = refl
    go (Some n) e = absurd (omega (arith, le, l.within k (ap is_some e)))

  -- a free node is put behind the others
  pub listed_more : (p q : ℕ → Option (Node T)) (k free spare : ℕ) (m : Node T) → ((j : ℕ) → q j ≡ upd p k (Some m) j) → IsListed p free spare k → free_load m.load ≡ 1 → m.behind ≡ free
      → IsListed q k (spare + 1) (k + 1)
  listed_more p q k free spare m new l load links =
      freed p q k (k + 1) m new free spare k l (past p free spare k k l (omega arith)) load links (omega arith) (omega arith) (λ j lt ne. omega (arith, lt, ne))

  pub past_none : (p : ℕ → Option (Node T)) (free spare len k : ℕ) → IsListed p free spare len → len ≤ k → p k ≡ None
  past_none p free spare len k l le = go (p k) refl where
    go : (o : Option (Node T)) → p k ≡ o → p k ≡ None
    go None e = e
    go (Some n) e = absurd (omega (arith, le, l.within k (ap is_some e)))
