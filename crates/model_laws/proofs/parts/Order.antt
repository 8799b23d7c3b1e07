-- A part is a pool map, in which the pools under c read as in the whole, in the same run order; and a new connection's part.
use Rattle.std.proofs.Common.{◌≡◌, ℕ, zero, suc, ◌≤◌, Bool, true, false, ◌==◌, cond, List, [], ◌∷◌, ◌++◌, reverse, map, ◌⊎◌, inl, inr, refl, sym, ◌∙◌, ap, eq-eqb, eqb-true}
use Rattle.std.specs.List.{flat_map}
use Rattle.std.proofs.lemmas.Bool.{cases_Bool, or_cases, or_left, or_right, both_ways, false_from_ne_true}
use Rattle.run_model.specs.Indexed.{upd}
use Rattle.run_model.specs.Pools.{Pools, is_in, is_under, planted, created, Cleanups, no_cleanups}
use Rattle.run_model.specs.RunOrder.{IsPoolMap, leads_to, is_child, children_below, own_run, runs_within, run_order, pre_run}
use Rattle.model_laws.specs.Parts.{is_top, belongs, part, HasPart, PartIsPoolMap, NewPartIsPlanted, PartReadsAlike}
use Rattle.run_model.proofs.RunOrderLaws.{under_child, under_itself, child_live}
use Rattle.run_model.proofs.Formed.{thinned_formed, formed_fresh, formed_older}
use Rattle.model_laws.proofs.parts.Paths.{under_trans, under_belongs, part_under, part_path, part_payloads, part_off, under_alike, above_alike, live_alike, under_live, root_path, top_path}
use Rattle.model_laws.proofs.parts.Own.{same_pools, never}

-- The part is a pool map.
module _ {T : Type 0} (c : ℕ) (ps : Pools T) (h : HasPart ps c) where
  part_paths : (n : ℕ) → ((part c ps).path n ≡ []) ⊎ ((part c ps).path n ≡ ps.path n)
  part_paths n = elim (cases_Bool (belongs c (ps.path n))) [
    | inl here ↦ inr (part_path ps c n here)
    | inr off ↦ inl (part_off ps c n off).0
  ]

  above_there : (n m k : ℕ) (above : List ℕ) → ps.path n ≡ m ∷ k ∷ above → is_in c (m ∷ k ∷ above) ≡ true → belongs c (ps.path k) ≡ true
  above_there n m k above is inside = elim (or_cases (m == c) (is_in c (k ∷ above)) inside) [
    | inl e ↦
        (let at : n ≡ c = sym (h.formed.first n m (k ∷ above) is) ∙ eqb-true m c e in
        let both : (m ∷ k ∷ above) ≡ (c ∷ h.root ∷ []) = sym is ∙ (ap ps.path at ∙ h.top) in
        let same : k ≡ h.root = cc in
        or_left (is_top (ps.path k)) (is_in c (ps.path k)) (ap is_top (ap ps.path same ∙ root_path ps c h)))
    | inr e ↦ or_right (is_top (ps.path k)) (is_in c (ps.path k)) (ap (is_in c) (h.formed.closed n m k above is) ∙ e)
  ]

  part_stays : (n m k : ℕ) (above : List ℕ) → (part c ps).path n ≡ m ∷ k ∷ above → (part c ps).path k ≡ ps.path k
  part_stays n m k above is = elim (cases_Bool (belongs c (ps.path n))) [
    | inl here ↦
        (let was : ps.path n ≡ m ∷ k ∷ above = sym (part_path ps c n here) ∙ is in
        part_path ps c k (above_there n m k above was (ap (belongs c) (sym was) ∙ here)))
    | inr off ↦ absurd (let both : [] ≡ m ∷ k ∷ above = sym (part_off ps c n off).0 ∙ is in cc)
  ]

  part_bare : (n : ℕ) → (part c ps).path n ≡ [] → (part c ps).payloads n ≡ no_cleanups
  part_bare n none = elim (cases_Bool (belongs c (ps.path n))) [
    | inl here ↦ part_payloads ps c n here ∙ h.formed.bare n (sym (part_path ps c n here) ∙ none)
    | inr off ↦ (part_off ps c n off).1
  ]

  same_next : (part c ps).next ≡ ps.next
  unfolding part
  same_next = refl

  pub part_has : HasPart (part c ps) c
  part_has = record {
    formed = thinned_formed ps (part c ps) same_next part_paths part_stays part_bare h.formed;
    root = h.root;
    top = part_path ps c c (under_belongs ps c c (part_under ps c h)) ∙ h.top;
  }

  -- The run order.

  pub child_under : (p n : ℕ) → is_under ps c p ≡ true → is_child ps p n ≡ true → is_under ps c n ≡ true
  child_under p n under child =
      under_trans ps h.formed c p n under (under_child ps h.formed p n n child (under_itself ps h.formed n (child_live ps h.formed p n child))).0

  child_alike : (p n : ℕ) → is_under ps c p ≡ true → is_child (part c ps) p n ≡ is_child ps p n
  unfolding is_child
  child_alike p n under = elim (cases_Bool (belongs c (ps.path n))) [
    | inl here ↦ ap (leads_to p) (part_path ps c n here)
    | inr off ↦ ap (leads_to p) (part_off ps c n off).0
        ∙ sym (false_from_ne_true (leads_to p (ps.path n)) (λ child. both_ways (belongs c (ps.path n)) off (under_belongs ps c n (child_under p n under child))))
  ]

  children_alike : (p : ℕ) → is_under ps c p ≡ true → (m : ℕ) → children_below (part c ps) p m ≡ children_below ps p m
  unfolding children_below
  children_alike p under zero = refl
  children_alike p under (suc m) =
      ap (λ (t : Bool). cond t (m ∷ children_below (part c ps) p m) (children_below (part c ps) p m)) (child_alike p m under)
      ∙ ap (λ (ms : List ℕ). cond (is_child ps p m) (m ∷ ms) ms) (children_alike p under m)

  -- what children bring, where they bring the same
  brought_alike : {X : Type 0} (p : ℕ) (f g : ℕ → List X) → ((n : ℕ) → is_child ps p n ≡ true → f n ≡ g n) → (m : ℕ) → flat_map f (children_below ps p m) ≡ flat_map g (children_below ps p m)
  unfolding children_below
  brought_alike p f g same zero = refl
  brought_alike {X = X} p f g same (suc m) = elim (cases_Bool (is_child ps p m)) [
    | inl child ↦ rw (child, same m child) (ap (λ (xs : List X). g m ++ xs) (brought_alike p f g same m))
    | inr other ↦ rw other (brought_alike p f g same m)
  ]

  own_alike : (p : ℕ) → is_under ps c p ≡ true → own_run (part c ps) p ≡ own_run ps p
  unfolding own_run
  own_alike p under = ap (λ (xs : Cleanups T). map (λ x. (p, x)) (reverse xs.plain)) (part_payloads ps c p (under_belongs ps c p under))

  early_alike : (p : ℕ) → is_under ps c p ≡ true → pre_run (part c ps) p ≡ pre_run ps p
  unfolding pre_run
  early_alike p under = ap (λ (xs : Cleanups T). map (λ x. (p, x)) (reverse xs.pre)) (part_payloads ps c p (under_belongs ps c p under))

  runs_alike : (depth p : ℕ) → is_under ps c p ≡ true → runs_within depth (part c ps) p ≡ runs_within depth ps p
  unfolding runs_within
  runs_alike zero p under = refl
  runs_alike (suc depth) p under =
      ap (λ (k : ℕ). pre_run (part c ps) p ++ (flat_map (runs_within depth (part c ps)) (children_below (part c ps) p k) ++ own_run (part c ps) p)) same_next
      ∙ (ap (λ (ms : List ℕ). pre_run (part c ps) p ++ (flat_map (runs_within depth (part c ps)) ms ++ own_run (part c ps) p)) (children_alike p under ps.next)
      ∙ (ap (λ (xs : List (ℕ × T)). pre_run (part c ps) p ++ (xs ++ own_run (part c ps) p))
      (brought_alike p (runs_within depth (part c ps)) (runs_within depth ps) (λ n child. runs_alike depth n (child_under p n under child)) ps.next)
      ∙ (ap (λ (xs : List (ℕ × T)). pre_run (part c ps) p ++ (flat_map (runs_within depth ps) (children_below ps p ps.next) ++ xs)) (own_alike p under)
      ∙ ap (λ (xs : List (ℕ × T)). xs ++ (flat_map (runs_within depth ps) (children_below ps p ps.next) ++ own_run ps p)) (early_alike p under))))

  pub order_alike : (p : ℕ) → is_under ps c p ≡ true → run_order (part c ps) p ≡ run_order ps p
  unfolding run_order
  order_alike p under = ap (λ (k : ℕ). runs_within k (part c ps) p) same_next ∙ runs_alike ps.next p under

pub part_formed : PartIsPoolMap
part_formed c ps h = part_has c ps h

pub reads_alike : PartReadsAlike
reads_alike c ps h = record {
  path = λ p under. part_path ps c p (under_belongs ps c p under);
  live = λ p under. live_alike ps c p (under_belongs ps c p under) ∙ under_live ps c p under;
  under = λ p n under. under_alike ps c p n h under;
  above = λ p n under. above_alike ps c p n under;
  order = λ p under. order_alike c ps h p under;
}

-- A new connection's part.

itself_belongs : (m : ℕ) (xs : List ℕ) → belongs m (m ∷ xs) ≡ true
itself_belongs m xs = or_right (is_top (m ∷ xs)) (is_in m (m ∷ xs)) (or_left (m == m) (is_in m xs) (eq-eqb m m refl))

module _ {T : Type 0} (root : ℕ) (ps : Pools T) (f : IsPoolMap ps) (at : ps.path root ≡ root ∷ []) where
  older_off : (n : ℕ) → (n == root) ≡ false → belongs ps.next (ps.path n) ≡ false
  older_off n apart = false_from_ne_true (belongs ps.next (ps.path n)) (λ here. elim (or_cases (is_top (ps.path n)) (is_in ps.next (ps.path n)) here) [
    | inl top ↦
        (let alone = top_path (ps.path n) top in
        let same : n ≡ root = f.alone n root alone.0 root alone.1 at in
        both_ways (n == root) apart (eq-eqb n root same))
    | inr inside ↦
        (let le : ps.next ≤ n = formed_older ps f n ps.next inside in
        let none : belongs ps.next (ps.path n) ≡ false = ap (belongs ps.next) (formed_fresh ps f n le) in
        both_ways (belongs ps.next (ps.path n)) none here)
  ])

  new_path : (n : ℕ) → (part ps.next (created root ps)).path n ≡ (created root (record (planted {T = T} root) { next = ps.next })).path n
  unfolding part created planted upd
  new_path n = by_test (n == ps.next) (n == root) refl where
    by_test : (b e : Bool) → (n == root) ≡ e → cond (belongs ps.next (cond b (ps.next ∷ ps.path root) (ps.path n))) (cond b (ps.next ∷ ps.path root) (ps.path n)) [] ≡ cond b
        (ps.next ∷ cond (root == root) (root ∷ []) []) (cond e (root ∷ []) [])
    by_test true e is = ap (λ (t : Bool). cond t (ps.next ∷ ps.path root) []) (itself_belongs ps.next (ps.path root))
        ∙ ap (λ (xs : List ℕ). ps.next ∷ xs) (at ∙ ap (λ (t : Bool). cond t (root ∷ []) []) (sym (eq-eqb root root refl)))
    by_test false true is = ap (λ (xs : List ℕ). cond (belongs ps.next xs) xs []) (ap ps.path (eqb-true n root is) ∙ at)
    by_test false false is = ap (λ (t : Bool). cond t (ps.path n) []) (older_off n is)

  new_payloads : ps.payloads root ≡ no_cleanups → (n : ℕ) → (part ps.next (created root ps)).payloads n ≡ (created root (record (planted {T = T} root) { next = ps.next })).payloads n
  unfolding part created planted upd
  new_payloads none n = by_test (n == ps.next) (n == root) refl where
    by_test : (b e : Bool) → (n == root) ≡ e → cond (belongs ps.next (cond b (ps.next ∷ ps.path root) (ps.path n))) (cond b no_cleanups (ps.payloads n)) no_cleanups ≡ cond b no_cleanups no_cleanups
    by_test true e is = never (belongs ps.next (ps.next ∷ ps.path root)) no_cleanups
    by_test false true is = ap (λ (xs : Cleanups T). cond (belongs ps.next (ps.path n)) xs no_cleanups) (ap ps.payloads (eqb-true n root is) ∙ none) ∙ never (belongs ps.next (ps.path n)) no_cleanups
    by_test false false is = ap (λ (t : Bool). cond t (ps.payloads n) no_cleanups) (older_off n is)

  new_next : (part ps.next (created root ps)).next ≡ (created root (record (planted {T = T} root) { next = ps.next })).next
  unfolding part created
  new_next = refl

  new_part : ps.payloads root ≡ no_cleanups → part ps.next (created root ps) ≡ created root (record (planted root) { next = ps.next })
  new_part none = same_pools (part ps.next (created root ps)) (created root (record (planted root) { next = ps.next })) new_path (new_payloads none) new_next

pub new_planted : NewPartIsPlanted
new_planted root ps f at none = new_part root ps f at none
