-- Taking the pools under one out, and emptying it, is a clear.
use Rattle.std.specs.Prelude.{◌≡◌, ℕ, zero, suc, ◌<◌, Bool, true, false, ◌==◌, ◌&&◌, not, is_some, if◌then◌else◌, Option, None, Some, List, [], ◌∷◌, map, reverse, refl}
use Rattle.std.specs.Option.{option_map, option_and_then}
use Rattle.std.proofs.Common.{sym, ◌∙◌, ap, subst, inl, inr, arith}
use Rattle.std.proofs.lemmas.Bool.{cases_Bool, cases_eq, eq-eqb, ne_eqb, eqb-true, or_left, or_right}
use Rattle.run_model.specs.declared.effect.CleanupKind.TheVariants.{Plain, Pre}
use Rattle.run_model.specs.Pools.{Pools, Cleanups, no_cleanups, is_live, is_under, is_in, is_empty, cleared, destroyed}
use Rattle.run_model.specs.RunOrder.{leads_to, is_child, children_below, IsPoolMap}
use Rattle.run_model.proofs.RunOrderLaws.{under_itself, child_path}
use Rattle.pool_tree.proofs.Paths.{pools_same}
use Rattle.pool_tree.specs.declared.records.Pool.{Pool}
use Rattle.pool_tree.specs.Links.{IsCleared}
use Rattle.pool_tree.specs.Records.{newest_of, payloads_of}
use Rattle.pool_tree.specs.Handed.{own_of, Seen, seen, seen_of, left_of_kind, after_turn}
use Rattle.pool_tree.proofs.Handing.{held_of, payloads_seen}

-- what a record has, by what is seen of it
by_seen : {T : Type 0} (f : Pool T → Option ℕ) (g : Seen T → Option ℕ) → ((q : Pool T) → g (seen q) ≡ f q) → (o : Option (Pool T)) → option_and_then f o ≡ option_and_then g (option_map seen o)
by_seen f g same None = refl
by_seen f g same (Some q) = sym (same q)

live_seen : {T : Type 0} (o : Option (Pool T)) → is_some o ≡ is_some (option_map seen o)
live_seen None = refl
live_seen (Some q) = refl

swap : {X : Type 0} (b here : Bool) (none x : X) → (if here then none else if b then none else x) ≡ (if b then none else if here then none else x)
swap true true none x = refl
swap true false none x = refl
swap false true none x = refl
swap false false none x = refl

both_gone : {X : Type 0} (b : Bool) (none : X) → none ≡ (if b then none else none)
both_gone true none = refl
both_gone false none = refl

module _ {T : Type 0} (p : ℕ) (goes : ℕ → Bool) (old mid : ℕ → Option (Pool T))
    (rest : (n : ℕ) → seen_of mid n ≡ (if goes n then None else after_turn (p, Pre) n (seen_of old n))) where
  -- what the pool itself has to hand on in its last turn
  pub own_kept : goes p ≡ false → own_of mid (p, Plain) ≡ own_of old (p, Plain)
  unfolding own_of after_turn
  own_kept stay =
      let now : seen_of mid p ≡ left_of_kind Pre (seen_of old p) = rest p ∙ rw (stay, eq-eqb p p refl) in
      let plain : (payloads_of mid p).plain ≡ (payloads_of old p).plain
      = ap (λ (c : Cleanups T). c.plain) (payloads_seen mid p) ∙ ap (λ (o : Option (Seen T)). (held_of o).plain) now ∙ plain_left (seen_of old p) ∙ ap (λ (c : Cleanups T). c.plain) (sym (payloads_seen old p)) in
      ap (λ (xs : List T). map (λ (x : T). (p, x)) (reverse xs)) plain
    where
      plain_left : (o : Option (Seen T)) → (held_of (left_of_kind Pre o)).plain ≡ (held_of o).plain
      plain_left None = refl
      plain_left (Some q) = refl

  -- in its first it has handed on all that was due then
  pub bare_mid : goes p ≡ false → (payloads_of mid p).pre ≡ []
  unfolding after_turn
  bare_mid stay =
      let now : seen_of mid p ≡ left_of_kind Pre (seen_of old p) = rest p ∙ rw (stay, eq-eqb p p refl) in
      ap (λ (c : Cleanups T). c.pre) (payloads_seen mid p) ∙ ap (λ (o : Option (Seen T)). (held_of o).pre) now ∙ none_left (seen_of old p)
    where
      none_left : (o : Option (Seen T)) → (held_of (left_of_kind Pre o)).pre ≡ []
      none_left None = refl
      none_left (Some q) = refl

-- A pool has had its first turn, those under it have had theirs, and it is emptied.
module _ {T : Type 0} (p : ℕ) (goes : ℕ → Bool) (old mid new : ℕ → Option (Pool T))
    (rest : (n : ℕ) → seen_of mid n ≡ (if goes n then None else after_turn (p, Pre) n (seen_of old n))) (clear : IsCleared p (λ _. false) mid new) where
  link : (f : Pool T → Option ℕ) (g : Seen T → Option ℕ) → ((q : Pool T) → g (seen q) ≡ f q) → ((s : Seen T) → g (record s { held = record s.held { pre = [] } }) ≡ g s)
      → (n : ℕ) → option_and_then f (mid n) ≡ (if goes n then None else option_and_then f (old n))
  unfolding seen_of after_turn
  link f g same kept n = by_seen f g same (mid n) ∙ ap (option_and_then g) (rest n) ∙ elim (cases_Bool (goes n)) [
    | inl gone ↦ rw gone
    | inr stay ↦ rw stay (stays (p == n) (old n))
  ]
    where
      stays : (here : Bool) (o : Option (Pool T)) → option_and_then g (if here then left_of_kind Pre (option_map seen o) else option_map seen o) ≡ option_and_then f o
      stays true None = refl
      stays true (Some q) = kept (seen q) ∙ same q
      stays false o = sym (by_seen f g same o)

  live_mid : (n : ℕ) → is_some (mid n) ≡ (if goes n then false else is_some (old n))
  unfolding seen_of after_turn
  live_mid n = live_seen (mid n) ∙ ap is_some (rest n) ∙ elim (cases_Bool (goes n)) [
    | inl gone ↦ rw gone
    | inr stay ↦ rw stay (stays (p == n) (old n))
  ]
    where
      stays : (here : Bool) (o : Option (Pool T)) → is_some (if here then left_of_kind Pre (option_map seen o) else option_map seen o) ≡ is_some o
      stays true None = refl
      stays true (Some q) = refl
      stays false o = sym (live_seen o)

  held_mid : (n : ℕ) → (n ≡ p → ⊥) → payloads_of mid n ≡ (if goes n then no_cleanups else payloads_of old n)
  unfolding after_turn
  held_mid n apart = payloads_seen mid n ∙ ap held_of (rest n) ∙ elim (cases_Bool (goes n)) [
    | inl gone ↦ rw gone
    | inr stay ↦ rw (stay, ne_eqb p n (λ e. apart (sym e))) (sym (payloads_seen old n))
  ]

  all_mid : (n : ℕ) → (if n == p then no_cleanups else payloads_of mid n) ≡ (if goes n then no_cleanups else if n == p then no_cleanups else payloads_of old n)
  all_mid n = elim (cases_eq n p) [
    | inl here ↦ rw (eq-eqb n p here) (both_gone (goes n) no_cleanups)
    | inr apart ↦ rw (ne_eqb n p apart) (held_mid n apart)
  ]

  pub cleared_by : IsCleared p goes old new
  cleared_by = record {
    live = λ n. clear.live n ∙ live_mid n;
    parents = λ n. clear.parents n ∙ link (λ q. q.parent) (λ s. s.parent) (λ _. refl) (λ _. refl) n;
    newest = λ n. clear.newest n ∙ ap (λ (o : Option ℕ). if n == p then None else o) (link (λ q. q.newest) (λ s. s.newest) (λ _. refl) (λ _. refl) n) ∙ swap (goes n) (n == p) None (newest_of old n);
    older = λ n. clear.older n ∙ link (λ q. q.older) (λ s. s.older) (λ _. refl) (λ _. refl) n;
    younger = λ n. clear.younger n ∙ link (λ q. q.younger) (λ s. s.younger) (λ _. refl) (λ _. refl) n;
    payloads = λ n. clear.payloads n ∙ all_mid n;
  }

twice : {X : Type 0} (under here : Bool) (xs : List X) → (here ≡ true → under ≡ true) → (if here then [] else if under && not here then [] else xs) ≡ (if under then [] else xs)
twice true true xs is = refl
twice true false xs is = refl
twice false true xs is = (let bad = is refl in cc)
twice false false xs is = refl

twice_flat : {X : Type 0} (under here : Bool) (none x : X) → (here ≡ true → under ≡ true) → (if here then none else if under then none else x) ≡ (if under then none else x)
twice_flat true true none x is = refl
twice_flat true false none x is = refl
twice_flat false true none x is = (let bad = is refl in cc)
twice_flat false false none x is = refl

itself : {T : Type 0} (ps : Pools T) → IsPoolMap ps → (p : ℕ) → is_live ps p ≡ true → (n : ℕ) → (n == p) ≡ true → is_under ps p n ≡ true
itself ps formed p live n here = subst (λ k. is_under ps p k ≡ true) (sym (eqb-true n p here)) (under_itself ps formed p live)

and_none : (b : Bool) → (b && not true) ≡ false
and_none true = refl
and_none false = refl

-- what is left under a cleared pool: itself
cleared_under : {T : Type 0} (ps : Pools T) → IsPoolMap ps → (p : ℕ) → is_live ps p ≡ true → (n : ℕ) → is_under (cleared p ps) p n ≡ (n == p)
unfolding is_under cleared
cleared_under ps formed p live n =
    elim (cases_eq n p) [
      | inl here ↦
          rw (eq-eqb n p here, and_none (is_in p (ps.path n))) (itself ps formed p live n (eq-eqb n p here))
      | inr apart ↦ rw (ne_eqb n p apart) (elim (cases_Bool (is_in p (ps.path n))) [ inl e ↦ rw e | inr e ↦ rw e e ])
    ]

path_under : {T : Type 0} (ps : Pools T) (p n : ℕ) (above : List ℕ) → ps.path n ≡ n ∷ p ∷ above → is_under ps p n ≡ true
unfolding is_under
path_under ps p n above at = ap (is_in p) at ∙ or_right (n == p) (is_in p (p ∷ above)) (or_left (p == p) (is_in p above) (eq-eqb p p refl))

-- no child of a cleared pool is left
cleared_child : {T : Type 0} (ps : Pools T) → IsPoolMap ps → (p n : ℕ) → is_child (cleared p ps) p n ≡ false
unfolding is_child cleared
cleared_child ps formed p n =
    elim (cases_Bool (leads_to p (ps.path n))) [
      | inl child ↦
          let c = child_path ps formed p n (ps.path n) refl child in
          let below : p < n = formed.rises n n p c.0 c.1 in
          let apart : n ≡ p → ⊥ = λ e. omega (arith, below) in
          let under : is_under ps p n ≡ true = path_under ps p n c.0 c.1 in
          rw (under, ne_eqb n p apart)
      | inr other ↦ elim (cases_Bool (is_under ps p n && not (n == p))) [ inl e ↦ rw e | inr e ↦ rw e other ]
    ]

-- Destroying is clearing and then destroying what is left.
pub destroyed_cleared : {T : Type 0} (ps : Pools T) → IsPoolMap ps → (p : ℕ) → is_live ps p ≡ true → destroyed p (cleared p ps) ≡ destroyed p ps
unfolding destroyed cleared
destroyed_cleared ps formed p live =
    pools_same (destroyed p (cleared p ps)) (destroyed p ps)
    (λ n. rw (cleared_under ps formed p live n) (twice (is_under ps p n) (n == p) (ps.path n) (itself ps formed p live n)))
    (λ n. rw (cleared_under ps formed p live n) (twice_flat (is_under ps p n) (n == p) no_cleanups (ps.payloads n) (itself ps formed p live n)))
    refl

-- a cleared pool has no child
pub cleared_childless : {T : Type 0} (ps : Pools T) → IsPoolMap ps → (p m : ℕ) → is_live ps p ≡ true → children_below (cleared p ps) p m ≡ []
unfolding children_below
cleared_childless ps formed p zero live = refl
cleared_childless ps formed p (suc m) live = rw (cleared_child ps formed p m) (cleared_childless ps formed p m live)

pub cleared_path_own : {T : Type 0} (ps : Pools T) (p : ℕ) → (cleared p ps).path p ≡ ps.path p
unfolding cleared
cleared_path_own ps p = rw (eq-eqb p p refl, and_none (is_under ps p p))

pub cleared_live : {T : Type 0} (ps : Pools T) (p : ℕ) → is_live (cleared p ps) p ≡ is_live ps p
unfolding is_live
cleared_live ps p = ap (λ xs. not (is_empty xs)) (cleared_path_own ps p)
