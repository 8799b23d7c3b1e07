-- Adding a child keeps the links, and makes the pool map with that child.
use Rattle.std.specs.Prelude.{◌≡◌, ℕ, suc, ◌<◌, ◌≤◌, true, false, ◌==◌, is_some, if◌then◌else◌, Option, None, Some, ◌∷◌, refl, ◌⊎◌}
use Rattle.std.proofs.Common.{sym, ◌∙◌, ap, subst, inl, inr, arith}
use Rattle.std.proofs.lemmas.Bool.{eq-eqb, ne_eqb, cases_Bool, both_ways, cases_eq}
use Rattle.pool_tree.specs.declared.records.Pool.{Pool}
use Rattle.pool_tree.specs.Records.{names, parent_of, newest_of, older_of, younger_of}
use Rattle.pool_tree.specs.Links.{newest_below, map_at, RecordsLinked, IsChildAdded}
use Rattle.run_model.specs.Indexed.{upd}
use Rattle.run_model.specs.Pools.{created}
use Rattle.pool_tree.proofs.Paths.{place_of, placed_path, place_same, place_at, parent_at, map_path_same, pools_same, step, map_next, map_payloads}
use Rattle.pool_tree.proofs.Newest.{named_is, names_at, newest_child, newest_same, below_here, below_there, pick, none_from, parent_live, newest_live, older_live, younger_live}

module _ {T : Type 0} (root next parent : ℕ) (old new : ℕ → Option (Pool T)) (linked : RecordsLinked root next old)
    (live : is_some (old parent) ≡ true) (added : IsChildAdded next parent old new) where
  parent_below : parent < next
  parent_below = linked.named parent live

  root_below : root < next
  root_below = linked.named root linked.root_live

  names_next : (p : ℕ) → names (Some parent) p ≡ (parent == p)
  names_next p = refl

  -- a pool of the new records is the added one or an old one
  new_live : (n : ℕ) → is_some (new n) ≡ true → (n ≡ next) ⊎ ((n ≡ next → ⊥) × (is_some (old n) ≡ true))
  new_live n at =
      elim (pick n next true (is_some (old n)) (is_some (new n)) (added.live n)) [
        | inl here ↦ inl here.0
        | inr there ↦ inr (there.0, sym there.1 ∙ at)
      ]

  old_live : (n : ℕ) → is_some (old n) ≡ true → is_some (new n) ≡ true
  old_live n at =
      elim (pick n next true (is_some (old n)) (is_some (new n)) (added.live n)) [
        | inl here ↦ here.1
        | inr there ↦ there.1 ∙ at
      ]

  -- a child of the new records is the added one or an old one
  new_child : (n p : ℕ) → parent_of new n ≡ Some p → ((n ≡ next) × (parent ≡ p)) ⊎ ((n < next) × (parent_of old n ≡ Some p))
  new_child n p at =
      elim (pick n next (Some parent) (parent_of old n) (parent_of new n) (added.parents n)) [
        | inl here ↦ (let is : Some parent ≡ Some p = sym here.1 ∙ at in let e : parent ≡ p = cc in inl (here.0, e))
        | inr there ↦ (let is = sym there.1 ∙ at in inr (linked.named n (parent_live old n p is), is))
      ]

  new_rises : (n p : ℕ) → parent_of new n ≡ Some p → p < n
  new_rises n p at = elim (new_child n p at) [ inl here ↦ omega (arith, parent_below, here.0, here.1) | inr there ↦ linked.rises n p there.1 ]

  new_closed : (n p : ℕ) → parent_of new n ≡ Some p → is_some (new p) ≡ true
  new_closed n p at =
      elim (new_child n p at) [
        | inl here ↦ old_live p (subst (λ k. is_some (old k) ≡ true) here.1 live)
        | inr there ↦ old_live p (linked.closed n p there.1)
      ]

  new_named : (n : ℕ) → is_some (new n) ≡ true → n < suc next
  new_named n at = elim (new_live n at) [ inl here ↦ omega (arith, here) | inr there ↦ omega (arith, linked.named n there.1) ]

  new_rooted : (n : ℕ) → is_some (new n) ≡ true → parent_of new n ≡ None → n ≡ root
  new_rooted n at top =
      elim (pick n next (Some parent) (parent_of old n) (parent_of new n) (added.parents n)) [
        | inl here ↦ (let bad : Some parent ≡ None = sym here.1 ∙ top in cc)
        | inr there ↦ elim (new_live n at) [
          | inl here ↦ absurd (there.0 here)
          | inr was ↦ linked.rooted n was.1 (sym there.1 ∙ top)
        ]
      ]

  new_root : parent_of new root ≡ None
  new_root =
      elim (pick root next (Some parent) (parent_of old root) (parent_of new root) (added.parents root)) [
        | inl here ↦ absurd (omega (arith, root_below, here.0))
        | inr there ↦ there.1 ∙ linked.root_above
      ]

  -- the children below the added one are the old ones
  new_below : (p m : ℕ) → m ≤ next → newest_below new p m ≡ newest_below old p m
  new_below p m low = newest_same new old p m (λ k below. ap (λ o. names o p)
      (elim (pick k next (Some parent) (parent_of old k) (parent_of new k) (added.parents k)) [
        | inl here ↦ absurd (omega (arith, here.0))
        | inr there ↦ there.1
      ]))

  -- the added name had no links
  bare_newest : newest_of old next ≡ None
  bare_newest = none_from (newest_of old next) (λ k at. absurd (omega (arith, linked.named next (newest_live old next k at))))

  bare_older : (k : ℕ) → older_of old next ≡ Some k → ⊥
  bare_older k at = omega (arith, linked.named next (older_live old next k at))

  bare_younger : (k : ℕ) → younger_of old next ≡ Some k → ⊥
  bare_younger k at = omega (arith, linked.named next (younger_live old next k at))

  next_child : parent_of new next ≡ Some parent
  next_child =
      elim (pick next next (Some parent) (parent_of old next) (parent_of new next) (added.parents next)) [
        | inl here ↦ here.1
        | inr there ↦ absurd (there.0 refl)
      ]

  new_newest : (p : ℕ) → newest_of new p ≡ newest_below new p (suc next)
  new_newest p =
      elim (pick p parent (Some next) (if p == next then None else newest_of old p) (newest_of new p) (added.newest p)) [
        | inl here ↦ here.1 ∙ sym (below_here new p next (names_at (parent_of new next) p (next_child ∙ ap Some (sym here.0))))
        | inr there ↦
            let skip : names (parent_of new next) p ≡ false = ap (λ o. names o p) next_child ∙ ne_eqb parent p (λ e. there.0 (sym e)) in
            elim (pick p next None (newest_of old p) (if p == next then None else newest_of old p) refl) [
              | inl here ↦ there.1 ∙ here.1 ∙ sym bare_newest ∙ ap (newest_of old) (sym here.0) ∙ linked.newest p ∙ sym (new_below p next (omega arith)) ∙ sym (below_there new p next skip)
              | inr other ↦ there.1 ∙ other.1 ∙ linked.newest p ∙ sym (new_below p next (omega arith)) ∙ sym (below_there new p next skip)
            ]
      ]

  new_older : (n p : ℕ) → parent_of new n ≡ Some p → older_of new n ≡ newest_below new p n
  new_older n p at =
      elim (new_child n p at) [
        | inl here ↦
            elim (pick n next (newest_of old parent) (older_of old n) (older_of new n) (added.older n)) [
              | inl fresh ↦ fresh.1 ∙ linked.newest parent ∙ ap (λ k. newest_below old k next) here.1 ∙ sym (new_below p next (omega arith)) ∙ ap (newest_below new p) (sym here.0)
              | inr other ↦ absurd (other.0 here.0)
            ]
        | inr there ↦
            elim (pick n next (newest_of old parent) (older_of old n) (older_of new n) (added.older n)) [
              | inl fresh ↦ absurd (omega (arith, there.0, fresh.0))
              | inr other ↦ other.1 ∙ linked.older n p there.1 ∙ sym (new_below p n (omega (arith, there.0)))
            ]
      ]

  -- the younger link of a pool: to the added child, or as it was
  new_younger_cases : (n : ℕ) → ((newest_of old parent ≡ Some n) × (younger_of new n ≡ Some next))
      ⊎ ((names (newest_of old parent) n ≡ false) × (((n ≡ next) × (younger_of new n ≡ None)) ⊎ ((n ≡ next → ⊥) × (younger_of new n ≡ younger_of old n))))
  new_younger_cases n =
      elim (cases_Bool (names (newest_of old parent) n)) [
        | inl e ↦ (let at = rw e at (added.younger n) in inl (named_is (newest_of old parent) n e, at))
        | inr e ↦ (let at = rw e at (added.younger n) in inr (e, pick n next None (younger_of old n) (younger_of new n) at))
      ]

  new_older_next : older_of new next ≡ newest_of old parent
  new_older_next =
      elim (pick next next (newest_of old parent) (older_of old next) (older_of new next) (added.older next)) [ inl here ↦ here.1 | inr there ↦ absurd (there.0 refl) ]

  new_older_old : (m : ℕ) → (m ≡ next → ⊥) → older_of new m ≡ older_of old m
  new_older_old m apart =
      elim (pick m next (newest_of old parent) (older_of old m) (older_of new m) (added.older m)) [ inl here ↦ absurd (apart here.0) | inr there ↦ there.1 ]

  new_younger : (n m : ℕ) → younger_of new n ≡ Some m → older_of new m ≡ Some n
  new_younger n m at =
      elim (new_younger_cases n) [
        | inl was ↦ (let both : Some next ≡ Some m = sym was.1 ∙ at in let e : next ≡ m = cc in ap (older_of new) (sym e) ∙ new_older_next ∙ was.0)
        | inr other ↦ elim other.1 [
          | inl here ↦ (let bad : None ≡ Some m = sym here.1 ∙ at in cc)
          | inr there ↦
              let is = linked.younger n m (sym there.1 ∙ at) in
              new_older_old m (λ e. bare_older n (ap (older_of old) (sym e) ∙ is)) ∙ is
        ]
      ]

  new_elder : (n m : ℕ) → older_of new m ≡ Some n → younger_of new n ≡ Some m
  new_elder n m at =
      elim (cases_eq m next) [
        | inl here ↦
            let is : newest_of old parent ≡ Some n = sym new_older_next ∙ ap (older_of new) (sym here) ∙ at in
            elim (new_younger_cases n) [
              | inl was ↦ was.1 ∙ ap Some (sym here)
              | inr other ↦ absurd (both_ways (names (newest_of old parent) n) other.0 (names_at (newest_of old parent) n is))
            ]
        | inr apart ↦
            let is : younger_of old n ≡ Some m = linked.elder n m (sym (new_older_old m apart) ∙ at) in
            elim (new_younger_cases n) [
              | inl was ↦ (let bad : None ≡ Some m = sym (linked.last parent n was.0) ∙ is in cc)
              | inr other ↦ elim other.1 [
                | inl here ↦ absurd (bare_younger m (ap (younger_of old) (sym here.0) ∙ is))
                | inr there ↦ there.1 ∙ is
              ]
            ]
      ]

  -- the newest link of a pool: to the added child, or as it was
  new_newest_cases : (p : ℕ) → ((p ≡ parent) × (newest_of new p ≡ Some next)) ⊎ ((p ≡ parent → ⊥) × (newest_of new p ≡ newest_of old p))
  new_newest_cases p =
      elim (pick p parent (Some next) (if p == next then None else newest_of old p) (newest_of new p) (added.newest p)) [
        | inl here ↦ inl here
        | inr there ↦ elim (pick p next None (newest_of old p) (if p == next then None else newest_of old p) refl) [
          | inl here ↦ inr (there.0, there.1 ∙ here.1 ∙ sym bare_newest ∙ ap (newest_of old) (sym here.0))
          | inr other ↦ inr (there.0, there.1 ∙ other.1)
        ]
      ]

  new_youngest : (n p : ℕ) → parent_of new n ≡ Some p → younger_of new n ≡ None → newest_of new p ≡ Some n
  new_youngest n p child none =
      elim (new_child n p child) [
        | inl here ↦ elim (new_newest_cases p) [
          | inl at ↦ at.1 ∙ ap Some (sym here.0)
          | inr apart ↦ absurd (apart.0 (sym here.1))
        ]
        | inr there ↦ elim (new_younger_cases n) [
          | inl was ↦ (let bad : Some next ≡ None = sym was.1 ∙ none in cc)
          | inr other ↦ elim other.1 [
            | inl here ↦ absurd (omega (arith, here.0, there.0))
            | inr rest ↦
                let is : newest_of old p ≡ Some n = linked.youngest n p there.1 (sym rest.1 ∙ none) in
                elim (new_newest_cases p) [
                  | inl at ↦ absurd (both_ways (names (newest_of old parent) n) other.0 (names_at (newest_of old parent) n (ap (newest_of old) (sym at.0) ∙ is)))
                  | inr apart ↦ apart.1 ∙ is
                ]
          ]
        ]
      ]

  bare_child : newest_of old parent ≡ Some next → ⊥
  bare_child at = omega (arith, (newest_child old parent next next (sym (linked.newest parent) ∙ at)).1)

  new_last : (p n : ℕ) → newest_of new p ≡ Some n → younger_of new n ≡ None
  new_last p n at =
      elim (new_newest_cases p) [
        | inl here ↦
            let both : Some next ≡ Some n = sym here.1 ∙ at in
            let e : n ≡ next = cc in
            elim (new_younger_cases n) [
              | inl was ↦ absurd (bare_child (was.0 ∙ ap Some e))
              | inr other ↦ elim other.1 [ inl fresh ↦ fresh.1 | inr rest ↦ absurd (rest.0 e) ]
            ]
        | inr apart ↦
            let is : newest_of old p ≡ Some n = sym apart.1 ∙ at in
            let child : parent_of old n ≡ Some p = (newest_child old p next n (sym (linked.newest p) ∙ is)).0 in
            elim (new_younger_cases n) [
              | inl was ↦
                  let other : parent_of old n ≡ Some parent = (newest_child old parent next n (sym (linked.newest parent) ∙ was.0)).0 in
                  let both : Some p ≡ Some parent = sym child ∙ other in
                  let e : p ≡ parent = cc in
                  absurd (apart.0 e)
              | inr other ↦ elim other.1 [ inl fresh ↦ fresh.1 | inr rest ↦ rest.1 ∙ linked.last p n is ]
            ]
      ]

  pub added_linked : RecordsLinked root (suc next) new
  added_linked =
      assumption (
        old_live root linked.root_live,
        new_root,
        new_older_old root (λ e. omega (arith, root_below)) ∙ linked.root_alone,
        new_named,
        new_rooted,
        new_rises,
        new_closed,
        new_newest,
        new_older,
        new_younger,
        new_elder,
        new_youngest,
        new_last,
      )

  old_place : (n : ℕ) → (n ≡ next → ⊥) → place_of new n ≡ place_of old n
  old_place n apart =
      place_same new old n n
      (elim (pick n next true (is_some (old n)) (is_some (new n)) (added.live n)) [ inl here ↦ absurd (apart here.0) | inr there ↦ there.1 ])
      (elim (pick n next (Some parent) (parent_of old n) (parent_of new n) (added.parents n)) [ inl here ↦ absurd (apart here.0) | inr there ↦ there.1 ])

  old_path : (n : ℕ) → (n ≡ next → ⊥) → (map_at (suc next) new).path n ≡ (map_at next old).path n
  old_path n apart =
      map_path_same (suc next) next new old (λ n. n ≡ next → ⊥) old_place
      (λ n p apart at.
      let is : parent_of old n ≡ Some p = parent_at old n p (sym (old_place n apart) ∙ at) in
      let low = linked.named p (linked.closed n p is) in
      ((λ e. omega (arith, low)), linked.rises n p is))
      n apart

  next_place : place_of new next ≡ Some (Some parent)
  next_place = place_at new next parent next_child

  next_path : (map_at (suc next) new).path next ≡ next ∷ (map_at next old).path parent
  next_path =
      step root (suc next) new added_linked next ∙ ap (placed_path (map_at (suc next) new).path next) next_place
      ∙ ap (λ xs. next ∷ xs) (old_path parent (λ e. omega (arith, parent_below)))

  paths : (n : ℕ) → (map_at (suc next) new).path n ≡ (created parent (map_at next old)).path n
  unfolding created upd
  paths n =
      rw (map_next root next old linked)
      (elim (cases_eq n next) [
        | inl here ↦ rw (eq-eqb n next here) (ap (map_at (suc next) new).path here ∙ next_path)
        | inr apart ↦ rw (ne_eqb n next apart) (old_path n apart)
      ])

  payloads : (n : ℕ) → (map_at (suc next) new).payloads n ≡ (created parent (map_at next old)).payloads n
  unfolding created upd
  payloads n =
      rw (map_next root next old linked, map_payloads root (suc next) new added_linked n, map_payloads root next old linked n) (added.payloads n)

  pub added_map : map_at (suc next) new ≡ created parent (map_at next old)
  unfolding created upd
  added_map =
      let here = map_next root next old linked in
      pools_same (map_at (suc next) new) (created parent (map_at next old)) paths payloads (map_next root (suc next) new added_linked ∙ rw here (omega arith))
