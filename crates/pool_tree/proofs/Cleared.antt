-- Where all pools under one go, the links are kept, and the pool map is the cleared one.
use Rattle.std.specs.Prelude.{◌≡◌, ℕ, Bool, true, false, ◌==◌, ◌&&◌, ◌||◌, not, is_some, if◌then◌else◌, Option, None, Some, [], ◌∷◌, refl, ◌⊎◌}
use Rattle.std.proofs.Common.{sym, ◌∙◌, ap, subst, inl, inr, arith}
use Rattle.std.proofs.lemmas.Bool.{eq-eqb, ne_eqb, cases_Bool, both_ways, cases_eq, false_from_ne_true, and_parts, not-true, eqb-false}
use Rattle.run_model.specs.Pools.{is_live, is_under, is_in, cleared}
use Rattle.run_model.proofs.RunOrderLaws.{under_itself, under_above}
use Rattle.pool_tree.specs.declared.records.Pool.{Pool}
use Rattle.pool_tree.specs.Records.{names, parent_of, newest_of, older_of, younger_of}
use Rattle.pool_tree.specs.Links.{newest_below, map_at, RecordsLinked, IsCleared}
use Rattle.pool_tree.proofs.Newest.{named_is, newest_child, newest_same, older_live}
use Rattle.pool_tree.proofs.Planted.{newest_none}
use Rattle.pool_tree.proofs.Paths.{place_same, place_none, placed_path, parent_at, map_path_same, pools_same, step, formed, live_is, root_path, under_at, map_next, map_payloads}

-- a choice by a test
pub choose : {X : Type 0} (b : Bool) (x y z : X) → z ≡ (if b then x else y) → ((b ≡ true) × (z ≡ x)) ⊎ ((b ≡ false) × (z ≡ y))
choose true x y z is = inl (refl, is)
choose false x y z is = inr (refl, is)

pub top_or_under : (o : Option ℕ) → (o ≡ None) ⊎ ((p : ℕ) × (o ≡ Some p))
top_or_under None = inl refl
top_or_under (Some p) = inr (p, refl)

and_none : (b : Bool) → (b && not true) ≡ false
and_none true = refl
and_none false = refl

and_true : (b : Bool) → ((false || b) && not false) ≡ b
and_true true = refl
and_true false = refl

and_only : (b : Bool) → (b && not false) ≡ b
and_only true = refl
and_only false = refl

module _ {T : Type 0} (root next : ℕ) (old : ℕ → Option (Pool T)) (linked : RecordsLinked root next old) where
  -- a pool with an older one beside it is a child, as that one
  pub siblings : (n m : ℕ) → older_of old m ≡ Some n → (q : ℕ) × ((parent_of old m ≡ Some q) × (parent_of old n ≡ Some q))
  siblings n m at =
      elim (top_or_under (parent_of old m)) [
        | inl top ↦
            let is : m ≡ root = linked.rooted m (older_live old m n at) top in
            let bad : None ≡ Some n = sym linked.root_alone ∙ ap (older_of old) (sym is) ∙ at in
            cc
        | inr under ↦ (under.0, (under.1, (newest_child old under.0 m n (sym (linked.older m under.0 under.1) ∙ at)).0))
      ]

module _ {T : Type 0} (root next p : ℕ) (goes : ℕ → Bool) (old new : ℕ → Option (Pool T)) (linked : RecordsLinked root next old)
    (live : is_some (old p) ≡ true)
    (is : (n : ℕ) → goes n ≡ (is_under (map_at next old) p n && not (n == p))) (clear : IsCleared p goes old new) where
  map_live : is_live (map_at next old) p ≡ true
  map_live = live_is root next old linked p ∙ live

  -- p itself stays
  stays : goes p ≡ false
  stays = is p ∙ rw (eq-eqb p p refl) (and_none (is_under (map_at next old) p p))

  -- a child goes with the pool above, and with p
  goes_with : (n q : ℕ) → parent_of old n ≡ Some q → goes n ≡ is_under (map_at next old) p q
  goes_with n q at =
      is n ∙ rw (under_at root next old linked p n q at)
      (elim (cases_eq n p) [
        | inl here ↦
            let aside : is_under (map_at next old) p q ≡ false =
            false_from_ne_true (is_under (map_at next old) p q)
            (λ under. omega (arith, linked.rises n q at, under_above (map_at next old) (formed root next old linked) p q under)) in
            rw (eq-eqb n p here, aside)
        | inr apart ↦ rw (ne_eqb n p apart) (and_true (is_under (map_at next old) p q))
      ])

  -- the pool above a child that stays is one that stays, and is not p
  new_child : (n q : ℕ) → parent_of new n ≡ Some q → (goes n ≡ false) × ((parent_of old n ≡ Some q) × ((goes q ≡ false) × (q ≡ p → ⊥)))
  new_child n q at =
      elim (choose (goes n) None (parent_of old n) (parent_of new n) (clear.parents n)) [
        | inl gone ↦ (let bad : None ≡ Some q = sym gone.1 ∙ at in cc)
        | inr here ↦
            let was : parent_of old n ≡ Some q = sym here.1 ∙ at in
            let aside : is_under (map_at next old) p q ≡ false = sym (goes_with n q was) ∙ here.0 in (
              here.0,
              (
                was,
                (
                  is q ∙ ap (λ b. b && not (q == p)) aside,
                  λ e. both_ways (is_under (map_at next old) p q) aside
                      (subst (λ k. is_under (map_at next old) p k ≡ true) (sym e) (under_itself (map_at next old) (formed root next old linked) p map_live)),
                ),
              ),
            )
      ]

  alone : (n : ℕ) → (map_at next old).path n ≡ n ∷ [] → (n ≡ p → ⊥) → is_under (map_at next old) p n ≡ false
  unfolding is_under
  alone n path apart = ap (is_in p) path ∙ ap (λ b. b || false) (ne_eqb n p apart)

  -- a pool at the top is under no other
  top_apart : (n : ℕ) → parent_of old n ≡ None → is_some (old n) ≡ true → is_under (map_at next old) p n ≡ true → (n ≡ p → ⊥) → ⊥
  top_apart n top there under apart =
      let e : n ≡ root = linked.rooted n there top in
      let path = subst (λ k. (map_at next old).path k ≡ k ∷ []) (sym e) (root_path root next old linked) in
      both_ways (is_under (map_at next old) p n) (alone n path apart) under

  -- a pool at the top stays
  top_stays : (n : ℕ) → parent_of old n ≡ None → is_some (old n) ≡ true → goes n ≡ false
  top_stays n top there =
      false_from_ne_true (goes n) (λ gone.
      let both = and_parts (is_under (map_at next old) p n) (not (n == p)) (sym (is n) ∙ gone) in
      top_apart n top there both.0 (eqb-false n p (not-true (n == p) both.1)))

  kept_live : (n : ℕ) → goes n ≡ false → is_some (new n) ≡ is_some (old n)
  kept_live n stay = clear.live n ∙ ap (λ b. if b then false else is_some (old n)) stay

  was_live : (n : ℕ) → is_some (new n) ≡ true → (goes n ≡ false) × (is_some (old n) ≡ true)
  was_live n at =
      elim (choose (goes n) false (is_some (old n)) (is_some (new n)) (clear.live n)) [
        | inl gone ↦ (let bad : false ≡ true = sym gone.1 ∙ at in cc)
        | inr here ↦ (here.0, sym here.1 ∙ at)
      ]

  kept_parent : (n : ℕ) → goes n ≡ false → parent_of new n ≡ parent_of old n
  kept_parent n stay = clear.parents n ∙ ap (λ b. if b then None else parent_of old n) stay

  kept_older : (n : ℕ) → goes n ≡ false → older_of new n ≡ older_of old n
  kept_older n stay = clear.older n ∙ ap (λ b. if b then None else older_of old n) stay

  kept_younger : (n : ℕ) → goes n ≡ false → younger_of new n ≡ younger_of old n
  kept_younger n stay = clear.younger n ∙ ap (λ b. if b then None else younger_of old n) stay

  kept_newest : (n : ℕ) → goes n ≡ false → (n ≡ p → ⊥) → newest_of new n ≡ newest_of old n
  kept_newest n stay apart = clear.newest n ∙ rw (stay, ne_eqb n p apart)

  -- the children of a pool that stays and is not p are the old ones
  kept_below : (q : ℕ) → goes q ≡ false → (q ≡ p → ⊥) → (m : ℕ) → newest_below new q m ≡ newest_below old q m
  kept_below q stay apart m = newest_same new old q m (λ k _. same k)
    where
      same : (k : ℕ) → names (parent_of new k) q ≡ names (parent_of old k) q
      same k =
          elim (cases_Bool (goes k)) [
            | inl gone ↦
                ap (λ o. names o q) (clear.parents k ∙ ap (λ b. if b then None else parent_of old k) gone)
                ∙ sym (false_from_ne_true (names (parent_of old k) q) (λ at.
                let under : is_under (map_at next old) p q ≡ true = sym (goes_with k q (named_is (parent_of old k) q at)) ∙ gone in
                both_ways (goes q) stay (is q ∙ rw (under, ne_eqb q p apart))))
            | inr here ↦ ap (λ o. names o q) (kept_parent k here)
          ]

  -- the pools that went, and p, have no children left
  bare_below : (q m : ℕ) → ((n : ℕ) → parent_of new n ≡ Some q → ⊥) → newest_below new q m ≡ None
  bare_below q m none = newest_none new q m (λ k _. false_from_ne_true (names (parent_of new k) q) (λ at. none k (named_is (parent_of new k) q at)))

  new_newest : (q : ℕ) → newest_of new q ≡ newest_below new q next
  new_newest q =
      elim (choose (goes q) None (if q == p then None else newest_of old q) (newest_of new q) (clear.newest q)) [
        | inl gone ↦ gone.1 ∙ sym (bare_below q next (λ n at. both_ways (goes q) (new_child n q at).1.1.0 gone.0))
        | inr here ↦ elim (cases_eq q p) [
          | inl e ↦ clear.newest q ∙ rw (here.0, eq-eqb q p e) (sym (bare_below q next (λ n at. (new_child n q at).1.1.1 e)))
          | inr apart ↦ kept_newest q here.0 apart ∙ linked.newest q ∙ sym (kept_below q here.0 apart next)
        ]
      ]

  -- siblings go together
  together : (n m : ℕ) → older_of old m ≡ Some n → goes n ≡ goes m
  together n m at = (let s = siblings root next old linked n m at in goes_with n s.0 s.1.1 ∙ sym (goes_with m s.0 s.1.0))

  new_younger : (n m : ℕ) → younger_of new n ≡ Some m → older_of new m ≡ Some n
  new_younger n m at =
      elim (choose (goes n) None (younger_of old n) (younger_of new n) (clear.younger n)) [
        | inl gone ↦ (let bad : None ≡ Some m = sym gone.1 ∙ at in cc)
        | inr here ↦
            let was = linked.younger n m (sym here.1 ∙ at) in
            kept_older m (sym (together n m was) ∙ here.0) ∙ was
      ]

  new_elder : (n m : ℕ) → older_of new m ≡ Some n → younger_of new n ≡ Some m
  new_elder n m at =
      elim (choose (goes m) None (older_of old m) (older_of new m) (clear.older m)) [
        | inl gone ↦ (let bad : None ≡ Some n = sym gone.1 ∙ at in cc)
        | inr here ↦
            let was = sym here.1 ∙ at in
            kept_younger n (together n m was ∙ here.0) ∙ linked.elder n m was
      ]

  new_last : (q n : ℕ) → newest_of new q ≡ Some n → younger_of new n ≡ None
  new_last q n at =
      elim (choose (goes q) None (if q == p then None else newest_of old q) (newest_of new q) (clear.newest q)) [
        | inl gone ↦ (let bad : None ≡ Some n = sym gone.1 ∙ at in cc)
        | inr here ↦ elim (choose (q == p) None (newest_of old q) (if q == p then None else newest_of old q) refl) [
          | inl e ↦ (let bad : None ≡ Some n = sym e.1 ∙ sym here.1 ∙ at in cc)
          | inr apart ↦
              let none = linked.last q n (sym apart.1 ∙ sym here.1 ∙ at) in
              elim (choose (goes n) None (younger_of old n) (younger_of new n) (clear.younger n)) [ inl gone ↦ gone.1 | inr stay ↦ stay.1 ∙ none ]
        ]
      ]

  pub cleared_linked : RecordsLinked root next new
  cleared_linked = record {
    root_live = kept_live root (top_stays root linked.root_above linked.root_live) ∙ linked.root_live;
    root_above = kept_parent root (top_stays root linked.root_above linked.root_live) ∙ linked.root_above;
    root_alone = kept_older root (top_stays root linked.root_above linked.root_live) ∙ linked.root_alone;
    named = λ n at. linked.named n (was_live n at).1;
    rooted = λ n at top. linked.rooted n (was_live n at).1 (sym (kept_parent n (was_live n at).0) ∙ top);
    rises = λ n q at. linked.rises n q (new_child n q at).1.0;
    closed = λ n q at. (let c = new_child n q at in kept_live q c.1.1.0 ∙ linked.closed n q c.1.0);
    newest = new_newest;
    older = λ n q at. (let c = new_child n q at in kept_older n c.0 ∙ linked.older n q c.1.0 ∙ sym (kept_below q c.1.1.0 c.1.1.1 n));
    younger = new_younger;
    elder = new_elder;
    youngest = λ n q at none. (let c = new_child n q at in kept_newest q c.1.1.0 c.1.1.1 ∙ linked.youngest n q c.1.0 (sym (kept_younger n c.0) ∙ none));
    last = new_last;
  }

  gone_path : (n : ℕ) → goes n ≡ true → (map_at next new).path n ≡ []
  gone_path n gone =
      step root next new cleared_linked n
      ∙ ap (placed_path (map_at next new).path n) (place_none new n (clear.live n ∙ ap (λ b. if b then false else is_some (old n)) gone))

  kept_path : (n : ℕ) → goes n ≡ false → (map_at next new).path n ≡ (map_at next old).path n
  kept_path n stay =
      map_path_same next next new old (λ k. goes k ≡ false)
      (λ k stay. place_same new old k k (kept_live k stay) (kept_parent k stay))
      (λ k q stay at. (let c = new_child k q (parent_at new k q at) in (c.1.1.0, linked.rises k q c.1.0)))
      n stay

  cleared_path : (n : ℕ) → (map_at next new).path n ≡ (cleared p (map_at next old)).path n
  unfolding cleared
  cleared_path n =
      rw (← is n) (elim (cases_Bool (goes n)) [
        | inl gone ↦ rw gone (gone_path n gone)
        | inr stay ↦ rw stay (kept_path n stay)
      ])

  cleared_payloads : (n : ℕ) → (map_at next new).payloads n ≡ (cleared p (map_at next old)).payloads n
  unfolding cleared
  cleared_payloads n =
      map_payloads root next new cleared_linked n ∙ clear.payloads n
      ∙ rw (map_payloads root next old linked n) (elim (cases_eq n p) [
        | inl here ↦
            let under : is_under (map_at next old) p n ≡ true =
            subst (λ k. is_under (map_at next old) p k ≡ true) (sym here) (under_itself (map_at next old) (formed root next old linked) p map_live) in
            let stay : goes n ≡ false = ap goes here ∙ stays in
            rw (stay, eq-eqb n p here, under)
        | inr apart ↦
            let same : goes n ≡ is_under (map_at next old) p n = is n ∙ ap (λ b. is_under (map_at next old) p n && not b) (ne_eqb n p apart) ∙ and_only (is_under (map_at next old) p n) in
            rw (same, ne_eqb n p apart)
      ])

  cleared_next : (map_at next new).next ≡ (cleared p (map_at next old)).next
  unfolding cleared
  cleared_next = map_next root next new cleared_linked ∙ sym (map_next root next old linked)

  pub cleared_map : map_at next new ≡ cleared p (map_at next old)
  cleared_map = pools_same (map_at next new) (cleared p (map_at next old)) cleared_path cleared_payloads cleared_next
