-- Where a pool with no children goes, the links are kept, and the pool map is the one without it.
use Rattle.std.specs.Prelude.{◌≡◌, ℕ, zero, suc, ◌<◌, true, false, ◌==◌, ◌&&◌, not, is_some, if◌then◌else◌, Option, None, Some, refl, ◌⊎◌}
use Rattle.std.proofs.Common.{sym, ◌∙◌, ap, inl, inr, arith}
use Rattle.std.proofs.lemmas.Bool.{eq-eqb, ne_eqb, cases_Bool, both_ways, cases_eq, false_from_ne_true, and_parts}
use Rattle.run_model.specs.Pools.{is_live, is_under, destroyed}
use Rattle.run_model.proofs.RunOrderLaws.{under_itself, under_above, branch}
use Rattle.pool_tree.specs.declared.records.Pool.{Pool}
use Rattle.pool_tree.specs.Records.{names, parent_of, newest_of, older_of, younger_of}
use Rattle.pool_tree.specs.Links.{newest_below, map_at, RecordsLinked, IsRemoved}
use Rattle.pool_tree.proofs.Newest.{named_is, names_at, newest_child, newest_greatest, newest_same, below_here, below_there, parent_live}
use Rattle.pool_tree.proofs.Planted.{newest_none}
use Rattle.pool_tree.proofs.Cleared.{choose, siblings}
use Rattle.pool_tree.proofs.Paths.{place_same, place_none, placed_path, parent_at, map_path_same, pools_same, step, formed, live_is, child_is, map_next, map_payloads}

none_there : (o : Option ℕ) → not (is_some o) ≡ true → o ≡ None
none_there None e = refl
none_there (Some k) e = cc

same_some : (o : Option ℕ) (a b : ℕ) → o ≡ Some a → o ≡ Some b → a ≡ b
same_some o a b at at' = (let both : Some a ≡ Some b = sym at ∙ at' in cc)

-- a link to p leads past it, and any other is as it was
past : (p n : ℕ) (o there same new : Option ℕ) → new ≡ (if n == p then None else if names o n then there else same) → (n ≡ p → ⊥)
    → ((o ≡ Some n) × (new ≡ there)) ⊎ ((o ≡ Some n → ⊥) × (new ≡ same))
past p n o there same new is apart =
    elim (choose (names o n) there same new (is ∙ ap (λ b. if b then None else if names o n then there else same) (ne_eqb n p apart))) [
      | inl over ↦ inl (named_is o n over.0, over.1)
      | inr rest ↦ inr ((λ e. both_ways (names o n) rest.0 (names_at o n e)), rest.1)
    ]

-- Links to one side and back still lead to each other where p is taken out: of younger ones and older ones, and the other way.
kept_beside : (p : ℕ) (f g new_f new_g : ℕ → Option ℕ) → ((n m : ℕ) → f n ≡ Some m → g m ≡ Some n)
    → ((n : ℕ) → new_f n ≡ (if n == p then None else if names (g p) n then f p else f n))
    → ((n : ℕ) → new_g n ≡ (if n == p then None else if names (f p) n then g p else g n))
    → (f p ≡ Some p → ⊥) → (n m : ℕ) → new_f n ≡ Some m → new_g m ≡ Some n
kept_beside p f g new_f new_g back by_f by_g not_itself n m at =
    elim (cases_eq n p) [
      | inl here ↦
          let gone : new_f n ≡ None = by_f n ∙ ap (λ b. if b then None else if names (g p) n then f p else f n) (eq-eqb n p here) in
          (let bad : None ≡ Some m = sym gone ∙ at in cc)
      | inr apart ↦ elim (past p n (g p) (f p) (f n) (new_f n) (by_f n) apart) [
        | inl over ↦
            let was : f p ≡ Some m = sym over.1 ∙ at in
            let apart' : m ≡ p → ⊥ = λ e. not_itself (was ∙ ap Some e) in
            elim (past p m (f p) (g p) (g m) (new_g m) (by_g m) apart') [ inl there ↦ there.1 ∙ over.0 | inr rest ↦ absurd (rest.0 was) ]
        | inr other ↦
            let was : g m ≡ Some n = back n m (sym other.1 ∙ at) in
            let apart' : m ≡ p → ⊥ = λ e. other.0 (ap g (sym e) ∙ was) in
            elim (past p m (f p) (g p) (g m) (new_g m) (by_g m) apart') [
              | inl there ↦ absurd (apart (same_some (g m) n p was (back p m there.0)))
              | inr rest ↦ rest.1 ∙ was
            ]
      ]
    ]

module _ {T : Type 0} (root next p q : ℕ) (old new : ℕ → Option (Pool T)) (linked : RecordsLinked root next old)
    (live : is_some (old p) ≡ true) (above : parent_of old p ≡ Some q) (childless : newest_of old p ≡ None) (removed : IsRemoved p old new) where
  no_child : (n : ℕ) → parent_of old n ≡ Some p → ⊥
  no_child n at =
      let c = newest_greatest old p next n at (linked.named n (parent_live old n p at)) in
      (let bad : None ≡ Some c.0 = sym childless ∙ linked.newest p ∙ c.1.0 in cc)

  root_apart : root ≡ p → ⊥
  root_apart e = (let bad : None ≡ Some q = sym linked.root_above ∙ ap (parent_of old) e ∙ above in cc)

  -- p is not its own older or younger one
  older_apart : older_of old p ≡ Some p → ⊥
  older_apart at = omega (arith, (newest_child old q p p (sym (linked.older p q above) ∙ at)).1)

  younger_apart : younger_of old p ≡ Some p → ⊥
  younger_apart at = older_apart (linked.younger p p at)

  kept_live : (n : ℕ) → (n ≡ p → ⊥) → is_some (new n) ≡ is_some (old n)
  kept_live n apart = removed.live n ∙ ap (λ b. if b then false else is_some (old n)) (ne_eqb n p apart)

  kept_parent : (n : ℕ) → (n ≡ p → ⊥) → parent_of new n ≡ parent_of old n
  kept_parent n apart = removed.parents n ∙ ap (λ b. if b then None else parent_of old n) (ne_eqb n p apart)

  gone_parent : (n : ℕ) → n ≡ p → parent_of new n ≡ None
  gone_parent n here = removed.parents n ∙ ap (λ b. if b then None else parent_of old n) (eq-eqb n p here)

  was_live : (n : ℕ) → is_some (new n) ≡ true → (n ≡ p → ⊥) × (is_some (old n) ≡ true)
  was_live n at =
      elim (cases_eq n p) [
        | inl here ↦ (let bad : false ≡ true = sym (ap (λ b. if b then false else is_some (old n)) (eq-eqb n p here)) ∙ sym (removed.live n) ∙ at in cc)
        | inr apart ↦ (apart, sym (kept_live n apart) ∙ at)
      ]

  new_child : (n r : ℕ) → parent_of new n ≡ Some r → (n ≡ p → ⊥) × ((parent_of old n ≡ Some r) × (r ≡ p → ⊥))
  new_child n r at =
      elim (cases_eq n p) [
        | inl here ↦ (let bad : None ≡ Some r = sym (gone_parent n here) ∙ at in cc)
        | inr apart ↦
            let was = sym (kept_parent n apart) ∙ at in
            (apart, (was, λ e. no_child n (was ∙ ap Some e)))
      ]

  -- the newest child below a bound: that below p, where it was p, and else as it was
  names_kept : (r k : ℕ) → (k ≡ p → ⊥) → names (parent_of new k) r ≡ names (parent_of old k) r
  names_kept r k apart = ap (λ o. names o r) (kept_parent k apart)

  names_gone : (r : ℕ) → names (parent_of new p) r ≡ false
  names_gone r = ap (λ o. names o r) (gone_parent p refl)

  under_gone : (r : ℕ) → newest_below new r p ≡ newest_below old r p
  under_gone r = newest_same new old r p (λ k below. names_kept r k (λ e. omega arith))

  still_not : (r m : ℕ) → names (parent_of old m) r ≡ false → names (parent_of new m) r ≡ false
  still_not r m e =
      elim (cases_eq m p) [ inl here ↦ ap (λ k. names (parent_of new k) r) here ∙ names_gone r | inr apart ↦ names_kept r m apart ∙ e ]

  below_gone : (r m : ℕ) → newest_below old r m ≡ Some p → newest_below new r m ≡ newest_below old r p
  below_gone r zero at = absurd (omega (arith, (newest_child old r zero p at).1))
  below_gone r (suc m) at =
      elim (cases_Bool (names (parent_of old m) r)) [
        | inl e ↦
            let both : Some m ≡ Some p = sym (below_here old r m e) ∙ at in
            let here : m ≡ p = cc in
            below_there new r m (ap (λ k. names (parent_of new k) r) here ∙ names_gone r) ∙ ap (newest_below new r) here ∙ under_gone r
        | inr e ↦
            below_there new r m (still_not r m e) ∙ below_gone r m (sym (below_there old r m e) ∙ at)
      ]

  below_kept : (r m : ℕ) → (newest_below old r m ≡ Some p → ⊥) → newest_below new r m ≡ newest_below old r m
  below_kept r zero other = unfold newest_below in refl
  below_kept r (suc m) other =
      elim (cases_Bool (names (parent_of old m) r)) [
        | inl e ↦
            let apart : m ≡ p → ⊥ = λ here. other (below_here old r m e ∙ ap Some here) in
            below_here new r m (names_kept r m apart ∙ e) ∙ sym (below_here old r m e)
        | inr e ↦
            below_there new r m (still_not r m e) ∙ below_kept r m (λ at. other (below_there old r m e ∙ at)) ∙ sym (below_there old r m e)
      ]

  -- the links of the others: past p, or as they were
  newest_cases : (r : ℕ) → (r ≡ p → ⊥)
      → (((r ≡ q) × ((younger_of old p ≡ None) × (newest_of new r ≡ older_of old p))) ⊎ (((r ≡ q) → younger_of old p ≡ None → ⊥) × (newest_of new r ≡ newest_of old r)))
  newest_cases r apart =
      let at : newest_of new r ≡ (if names (parent_of old p) r && not (is_some (younger_of old p)) then older_of old p else newest_of old r)
      = removed.newest r ∙ ap (λ b. if b then None else if names (parent_of old p) r && not (is_some (younger_of old p)) then older_of old p else newest_of old r) (ne_eqb r p apart) in
      elim (choose (names (parent_of old p) r && not (is_some (younger_of old p))) (older_of old p) (newest_of old r) (newest_of new r) at) [
        | inl there ↦
            let both = and_parts (names (parent_of old p) r) (not (is_some (younger_of old p))) there.0 in
            let parents : Some q ≡ Some r = sym above ∙ named_is (parent_of old p) r both.0 in
            let e : r ≡ q = cc in
            inl (e, (none_there (younger_of old p) both.1, there.1))
        | inr rest ↦
            inr (
              (λ e none. both_ways (names (parent_of old p) r && not (is_some (younger_of old p))) rest.0
                  (rw (names_at (parent_of old p) r (above ∙ ap Some (sym e)), none))),
              rest.1,
            )
      ]

  older_cases : (n : ℕ) → (n ≡ p → ⊥) → (((younger_of old p ≡ Some n) × (older_of new n ≡ older_of old p)) ⊎ ((younger_of old p ≡ Some n → ⊥) × (older_of new n ≡ older_of old n)))
  older_cases n apart = past p n (younger_of old p) (older_of old p) (older_of old n) (older_of new n) (removed.older n) apart

  younger_cases : (n : ℕ) → (n ≡ p → ⊥) → (((older_of old p ≡ Some n) × (younger_of new n ≡ younger_of old p)) ⊎ ((older_of old p ≡ Some n → ⊥) × (younger_of new n ≡ younger_of old n)))
  younger_cases n apart = past p n (older_of old p) (younger_of old p) (younger_of old n) (younger_of new n) (removed.younger n) apart

  gone_younger : (n : ℕ) → n ≡ p → younger_of new n ≡ None
  gone_younger n here = removed.younger n ∙ ap (λ b. if b then None else if names (older_of old p) n then younger_of old p else younger_of old n) (eq-eqb n p here)

  gone_newest : (r : ℕ) → r ≡ p → newest_of new r ≡ None
  gone_newest r here = removed.newest r ∙ ap (λ b. if b then None else if names (parent_of old p) r && not (is_some (younger_of old p)) then older_of old p else newest_of old r) (eq-eqb r p here)

  new_newest : (r : ℕ) → newest_of new r ≡ newest_below new r next
  new_newest r =
      elim (cases_eq r p) [
        | inl here ↦ gone_newest r here ∙ sym (newest_none new r next (λ k _. false_from_ne_true (names (parent_of new k) r) (λ at. (new_child k r (named_is (parent_of new k) r at)).1.1 here)))
        | inr apart ↦ elim (newest_cases r apart) [
          | inl last ↦
              let was : newest_below old r next ≡ Some p = ap (λ k. newest_below old k next) last.0 ∙ sym (linked.newest q) ∙ linked.youngest p q above last.1.0 in
              last.1.1 ∙ linked.older p q above ∙ ap (λ k. newest_below old k p) (sym last.0) ∙ sym (below_gone r next was)
          | inr other ↦
              other.1 ∙ linked.newest r ∙ sym (below_kept r next (λ at.
              let is : newest_of old r ≡ Some p = linked.newest r ∙ at in
              other.0 (same_some (parent_of old p) r q (newest_child old r next p at).0 above) (linked.last r p is)))
        ]
      ]

  new_older : (n r : ℕ) → parent_of new n ≡ Some r → older_of new n ≡ newest_below new r n
  new_older n r at =
      let c = new_child n r at in
      elim (older_cases n c.0) [
        | inl past ↦
            let was : newest_below old r n ≡ Some p = sym (linked.older n r c.1.0) ∙ linked.younger p n past.0 in
            let e : r ≡ q = same_some (parent_of old p) r q (newest_child old r n p was).0 above in
            past.1 ∙ linked.older p q above ∙ ap (λ k. newest_below old k p) (sym e) ∙ sym (below_gone r n was)
        | inr other ↦
            other.1 ∙ linked.older n r c.1.0 ∙ sym (below_kept r n (λ was. other.0 (linked.elder p n (linked.older n r c.1.0 ∙ was))))
      ]

  new_younger : (n m : ℕ) → younger_of new n ≡ Some m → older_of new m ≡ Some n
  new_younger = kept_beside p (younger_of old) (older_of old) (younger_of new) (older_of new) linked.younger removed.younger removed.older younger_apart

  new_elder : (n m : ℕ) → older_of new m ≡ Some n → younger_of new n ≡ Some m
  new_elder n m = kept_beside p (older_of old) (younger_of old) (older_of new) (younger_of new) (λ a b. linked.elder b a) removed.older removed.younger older_apart m n

  new_youngest : (n r : ℕ) → parent_of new n ≡ Some r → younger_of new n ≡ None → newest_of new r ≡ Some n
  new_youngest n r at none =
      let c = new_child n r at in
      elim (younger_cases n c.0) [
        | inl past ↦
            let s = siblings root next old linked n p past.0 in
            let e : r ≡ q = same_some (parent_of old n) r q c.1.0 (s.1.1 ∙ sym s.1.0 ∙ above) in
            elim (newest_cases r c.1.1) [
              | inl last ↦ last.1.1 ∙ past.0
              | inr rest ↦ absurd (rest.0 e (sym past.1 ∙ none))
            ]
        | inr other ↦
            let was = linked.youngest n r c.1.0 (sym other.1 ∙ none) in
            elim (newest_cases r c.1.1) [
              | inl last ↦ absurd (c.0 (same_some (newest_of old r) n p was (ap (newest_of old) last.0 ∙ linked.youngest p q above last.1.0)))
              | inr rest ↦ rest.1 ∙ was
            ]
      ]

  new_last : (r n : ℕ) → newest_of new r ≡ Some n → younger_of new n ≡ None
  new_last r n at =
      elim (cases_eq r p) [
        | inl here ↦ (let bad : None ≡ Some n = sym (gone_newest r here) ∙ at in cc)
        | inr apart ↦ elim (newest_cases r apart) [
          | inl last ↦
              let old_one : older_of old p ≡ Some n = sym last.1.1 ∙ at in
              let apart' : n ≡ p → ⊥ = λ e. older_apart (old_one ∙ ap Some e) in
              elim (younger_cases n apart') [ inl past ↦ past.1 ∙ last.1.0 | inr rest ↦ absurd (rest.0 old_one) ]
          | inr other ↦
              let none = linked.last r n (sym other.1 ∙ at) in
              elim (cases_eq n p) [
                | inl here ↦ gone_younger n here
                | inr apart' ↦ elim (younger_cases n apart') [
                  | inl past ↦ (let bad : None ≡ Some p = sym none ∙ linked.elder n p past.0 in cc)
                  | inr rest ↦ rest.1 ∙ none
                ]
              ]
        ]
      ]

  new_root_alone : older_of new root ≡ None
  new_root_alone =
      elim (older_cases root root_apart) [
        | inl past ↦ (let bad : None ≡ Some p = sym linked.root_alone ∙ linked.younger p root past.0 in cc)
        | inr rest ↦ rest.1 ∙ linked.root_alone
      ]

  pub removed_linked : RecordsLinked root next new
  removed_linked = record {
    root_live = kept_live root root_apart ∙ linked.root_live;
    root_above = kept_parent root root_apart ∙ linked.root_above;
    root_alone = new_root_alone;
    named = λ n at. linked.named n (was_live n at).1;
    rooted = λ n at top. (let w = was_live n at in linked.rooted n w.1 (sym (kept_parent n w.0) ∙ top));
    rises = λ n r at. linked.rises n r (new_child n r at).1.0;
    closed = λ n r at. (let c = new_child n r at in kept_live r c.1.1 ∙ linked.closed n r c.1.0);
    newest = new_newest;
    older = new_older;
    younger = new_younger;
    elder = new_elder;
    youngest = new_youngest;
    last = new_last;
  }

  -- nothing but p is under p
  only_itself : (n : ℕ) → is_under (map_at next old) p n ≡ (n == p)
  only_itself n =
      elim (cases_eq n p) [
        | inl here ↦
            let map_live : is_live (map_at next old) p ≡ true = live_is root next old linked p ∙ live in
            ap (is_under (map_at next old) p) here ∙ under_itself (map_at next old) (formed root next old linked) p map_live ∙ sym (eq-eqb n p here)
        | inr apart ↦
            false_from_ne_true (is_under (map_at next old) p n) (λ under.
            let below : p < n = omega (arith, under_above (map_at next old) (formed root next old linked) p n under, apart) in
            let b = branch (map_at next old) (formed root next old linked) p n under below in
            no_child b.0 (named_is (parent_of old b.0) p (sym (child_is root next old linked p b.0) ∙ b.1.child)))
            ∙ sym (ne_eqb n p apart)
      ]

  removed_path : (n : ℕ) → (map_at next new).path n ≡ (destroyed p (map_at next old)).path n
  unfolding destroyed
  removed_path n =
      rw (only_itself n) (elim (cases_eq n p) [
        | inl here ↦ rw (eq-eqb n p here) (step root next new removed_linked n ∙ ap (placed_path (map_at next new).path n)
            (place_none new n (removed.live n ∙ ap (λ b. if b then false else is_some (old n)) (eq-eqb n p here))))
        | inr apart ↦ rw (ne_eqb n p apart)
            (map_path_same next next new old (λ k. k ≡ p → ⊥)
            (λ k apart. place_same new old k k (kept_live k apart) (kept_parent k apart))
            (λ k r apart at. (let c = new_child k r (parent_at new k r at) in (c.1.1, linked.rises k r c.1.0)))
            n apart)
      ])

  removed_payloads : (n : ℕ) → (map_at next new).payloads n ≡ (destroyed p (map_at next old)).payloads n
  unfolding destroyed
  removed_payloads n =
      map_payloads root next new removed_linked n ∙ removed.payloads n ∙ rw (only_itself n, map_payloads root next old linked n)

  removed_next : (map_at next new).next ≡ (destroyed p (map_at next old)).next
  unfolding destroyed
  removed_next = map_next root next new removed_linked ∙ sym (map_next root next old linked)

  pub removed_map : map_at next new ≡ destroyed p (map_at next old)
  removed_map = pools_same (map_at next new) (destroyed p (map_at next old)) removed_path removed_payloads removed_next
