-- What the links of a tree say of its pool map.
use Rattle.std.specs.Prelude.{◌≡◌, ℕ, ◌<◌, ◌≤◌, true, false, ◌==◌, ◌||◌, is_some, Option, None, Some, Result, Ok, Err, OnErr, List, [], ◌∷◌, refl}
use Rattle.std.specs.Option.{option_map, option_and_then}
use Rattle.std.proofs.Common.{sym, ◌∙◌, ap, subst, inl, inr, arith}
use Rattle.std.proofs.lemmas.Bool.{eq-eqb, ne_eqb, cases_eq, false_from_ne_true}
use Rattle.run_model.specs.Pools.{is_live, is_under, is_in}
use Rattle.run_model.specs.RunOrder.{IsPoolMap}
use Rattle.run_model.proofs.RunOrderLaws.{under_itself, under_above}
use Rattle.pool_tree.specs.declared.records.Pool.{Pool}
use Rattle.pool_tree.specs.declared.tree.PoolTree.{PoolTree}
use Rattle.pool_tree.specs.Records.{record_of, parent_of, newest_of, payloads_of}
use Rattle.pool_tree.proofs.Newest.{newest_child, parent_live, older_live}
use Rattle.pool_tree.proofs.Cleared.{siblings, top_or_under}
use Rattle.pool_tree.specs.Links.{map_at, RecordsLinked, HasNeighbours}
use Rattle.pool_tree.specs.Tree.{map_of}
use Rattle.pool_tree.proofs.Paths.{placed_path, place_at, step, formed, live_is, map_next, map_payloads, root_path}

top_cases : {T : Type 0} (above : ℕ → List ℕ) (n a : ℕ) (pool : Option (Pool T)) → (n ≡ a → ⊥) → option_and_then (λ q. q.parent) pool ≡ None
    → is_in a (placed_path above n (option_map (λ q. q.parent) pool)) ≡ false
top_cases above n a None apart at = refl
top_cases above n a (Some pool) apart at = rw (at, ne_eqb n a apart)

-- records that are equal at each name keep the links, and have the same pool map
pub same_linked : {T : Type 0} (root next : ℕ) (old new : ℕ → Option (Pool T)) → ((n : ℕ) → new n ≡ old n) → RecordsLinked root next old → RecordsLinked root next new
same_linked root next old new same linked = let e : old ≡ new = λ i n. sym (same n) i in subst (RecordsLinked root next) e linked

pub same_map : {T : Type 0} (next : ℕ) (old new : ℕ → Option (Pool T)) → ((n : ℕ) → new n ≡ old n) → map_at next new ≡ map_at next old
same_map next old new same = let e : new ≡ old = λ i n. same n i in ap (map_at next) e

pub not_there : {X : Type 0} (o : Option X) → (is_some o ≡ true → ⊥) → o ≡ None
not_there None never = refl
not_there (Some x) never = absurd (never refl)

module _ {T : Type 0} (tree : PoolTree T) where
  pub tree_formed : IsPoolMap (map_of tree)
  unfolding map_of
  tree_formed = formed tree.root tree.next (record_of tree.records) tree.linked

  -- how often it was asked what is live changes no pool
  pub map_asked : (n : ℕ) → map_of (record tree { asked = n }) ≡ map_of tree
  unfolding map_of
  map_asked n = refl

  pub tree_live : (n : ℕ) → is_live (map_of tree) n ≡ is_some (record_of tree.records n)
  unfolding map_of
  tree_live n = live_is tree.root tree.next (record_of tree.records) tree.linked n

  pub tree_next : (map_of tree).next ≡ tree.next
  unfolding map_of
  tree_next = map_next tree.root tree.next (record_of tree.records) tree.linked

  pub tree_payloads : (n : ℕ) → (map_of tree).payloads n ≡ payloads_of (record_of tree.records) n
  unfolding map_of
  tree_payloads n = map_payloads tree.root tree.next (record_of tree.records) tree.linked n

  -- the pool above is there
  pub above_live : (n p : ℕ) → parent_of (record_of tree.records) n ≡ Some p → is_live (map_of tree) p ≡ true
  above_live n p at = tree_live p ∙ tree.linked.closed n p at

  -- what is under a pool goes by the pool above
  pub under_step : (a n p : ℕ) → a < n → parent_of (record_of tree.records) n ≡ Some p → is_under (map_of tree) a n ≡ is_under (map_of tree) a p
  unfolding map_of is_under
  under_step a n p above at =
      ap (is_in a) (step tree.root tree.next (record_of tree.records) tree.linked n ∙ ap (placed_path (map_of tree).path n) (place_at (record_of tree.records) n p at))
      ∙ ap (λ b. b || is_in a ((map_of tree).path p)) (ne_eqb n a (λ e. omega arith))

  -- above the root there is nothing
  pub under_top : (a n : ℕ) → a < n → parent_of (record_of tree.records) n ≡ None → is_under (map_of tree) a n ≡ false
  unfolding map_of is_under
  under_top a n above at =
      ap (is_in a) (step tree.root tree.next (record_of tree.records) tree.linked n)
      ∙ top_cases (map_of tree).path n a (record_of tree.records n) (λ e. omega arith) at

  -- a pool is not under a younger one
  pub under_end : (a n : ℕ) → n ≤ a → is_live (map_of tree) n ≡ true → is_under (map_of tree) a n ≡ (n == a)
  under_end a n low live =
      elim (cases_eq n a) [
        | inl here ↦ ap (λ k. is_under (map_of tree) k n) (sym here) ∙ under_itself (map_of tree) tree_formed n live ∙ sym (eq-eqb n a here)
        | inr apart ↦
            false_from_ne_true (is_under (map_of tree) a n) (λ under. omega (arith, under_above (map_of tree) tree_formed a n under, apart))
            ∙ sym (ne_eqb n a apart)
      ]

  -- the next name is no pool's
  pub next_free : record_of tree.records tree.next ≡ None
  next_free = not_there (record_of tree.records tree.next) (λ live. omega (arith, tree.linked.named tree.next live))

  pub newest_is_live : (p n : ℕ) → newest_of (record_of tree.records) p ≡ Some n → is_some (record_of tree.records n) ≡ true
  newest_is_live p n at =
      parent_live (record_of tree.records) n p (newest_child (record_of tree.records) p tree.next n (sym (tree.linked.newest p) ∙ at)).0

  pub live_named : (n : ℕ) → is_live (map_of tree) n ≡ true → n < tree.next
  live_named n live = tree.linked.named n (sym (tree_live n) ∙ live)

  pub root_live : is_live (map_of tree) tree.root ≡ true
  root_live = tree_live tree.root ∙ tree.linked.root_live

  -- the pool at the top is the root
  pub root_is : (n : ℕ) → (map_of tree).path n ≡ n ∷ [] → tree.root ≡ n
  unfolding map_of
  root_is n top = tree_formed.alone tree.root n tree.root n (root_path tree.root tree.next (record_of tree.records) tree.linked) top

  -- a pool that is not the root has one above it
  pub has_parent : (n : ℕ) → is_live (map_of tree) n ≡ true → ((map_of tree).path n ≡ n ∷ [] → ⊥) → (q : ℕ) × (parent_of (record_of tree.records) n ≡ Some q)
  unfolding map_of
  has_parent n live below =
      elim (top_or_under (parent_of (record_of tree.records) n)) [
        | inl top ↦
            let e : n ≡ tree.root = tree.linked.rooted n (sym (tree_live n) ∙ live) top in
            absurd (below (subst (λ k. (map_of tree).path k ≡ k ∷ []) (sym e) (root_path tree.root tree.next (record_of tree.records) tree.linked)))
        | inr under ↦ under
      ]

  pub neighbours : (n : ℕ) → is_live (map_of tree) n ≡ true → HasNeighbours n (record_of tree.records)
  neighbours n live = record {
    live = sym (tree_live n) ∙ live;
    above = λ q at. tree.linked.closed n q at;
    older = λ m at. (let s = siblings tree.root tree.next (record_of tree.records) tree.linked m n at in parent_live (record_of tree.records) m s.0 s.1.1);
    younger = λ m at. older_live (record_of tree.records) m n (tree.linked.younger n m at);
  }

pub on_err : {A E P : Type 0} (r : Result A E) → P → OnErr r P
on_err (Ok x) p = tt
on_err (Err e) p = p
