-- The text of a pool and those under it, child by child.
use Rattle.std.specs.Prelude.{◌≡◌, ℕ, zero, suc, ◌+◌, ◌-◌, ◌<◌, ◌≤◌, true, Option, None, Some, MatchOption, List, [], ◌∷◌, ◌++◌, reverse, refl}
use Rattle.std.specs.List.{flat_map}
use Rattle.std.proofs.Common.{sym, ◌∙◌, ap, subst, inl, inr, arith}
use Rattle.std.proofs.lemmas.List.{append-nil, reverse-append}
use Rattle.std.proofs.lemmas.List.Concat.{flat_map-append}
use Rattle.std.proofs.lemmas.Bool.{cases_Bool}
use Rattle.run_model.specs.Pools.{Pools, is_live}
use Rattle.run_model.specs.RunOrder.{is_child, children_below, children, IsPoolMap}
use Rattle.run_model.proofs.RunOrderLaws.{child_above, child_live}
use Rattle.pool_tree.specs.declared.tree.PoolTree.{PoolTree}
use Rattle.pool_tree.specs.Records.{record_of, parent_of, newest_of, older_of, younger_of}
use Rattle.pool_tree.specs.Printed.{line, printed_within, printed}
use Rattle.pool_tree.specs.Tree.{map_of}
use Rattle.pool_tree.proofs.Newest.{parent_live, newest_child}
use Rattle.pool_tree.proofs.Cleared.{siblings}
use Rattle.pool_tree.proofs.Trees.{tree_live}
use Rattle.pool_tree.proofs.Walks.{children_from, children_start, children_rest}

-- one more child behind the others
pub turned_more : (f : ℕ → List ℕ) (c : ℕ) (xs : List ℕ) → flat_map f (reverse (c ∷ xs)) ≡ flat_map f (reverse xs) ++ f c
turned_more f c xs = ap (flat_map f) (reverse-append (c ∷ []) xs) ∙ flat_map-append f (reverse xs) (c ∷ []) ∙ ap (λ ys. flat_map f (reverse xs) ++ ys) (append-nil (f c))

pub turned_same : {T : Type 0} (ps : Pools T) (p : ℕ) (f g : ℕ → List ℕ) → ((c : ℕ) → is_child ps p c ≡ true → f c ≡ g c) → (m : ℕ)
    → flat_map f (reverse (children_below ps p m)) ≡ flat_map g (reverse (children_below ps p m))
unfolding children_below
turned_same ps p f g same zero = refl
turned_same ps p f g same (suc m) =
    elim (cases_Bool (is_child ps p m)) [
      | inl child ↦ rw (child, turned_more f m (children_below ps p m), turned_more g m (children_below ps p m), same m child) (ap (λ xs. xs ++ g m) (turned_same ps p f g same m))
      | inr other ↦ rw other (turned_same ps p f g same m)
    ]

pub printed_deep : {T : Type 0} (text : T → List ℕ) (ps : Pools T) → IsPoolMap ps → (d e depth p : ℕ) → ps.next ≤ d + p → ps.next ≤ e + p → is_live ps p ≡ true
    → printed_within d text ps depth p ≡ printed_within e text ps depth p
unfolding printed_within
printed_deep text ps formed zero e depth p deep far live = absurd (omega (arith, formed.named p live))
printed_deep text ps formed (suc d) zero depth p deep far live = absurd (omega (arith, formed.named p live))
printed_deep text ps formed (suc d) (suc e) depth p deep far live =
    ap (λ xs. line text ps depth p ++ xs) (turned_same ps p (printed_within d text ps (depth + 1)) (printed_within e text ps (depth + 1))
    (λ c child. printed_deep text ps formed d e (depth + 1) c (omega (arith, child_above ps formed p c child)) (omega (arith, child_above ps formed p c child)) (child_live ps formed p c child))
    ps.next)

pub printed_step : {T : Type 0} (text : T → List ℕ) (ps : Pools T) → IsPoolMap ps → (depth p : ℕ) → is_live ps p ≡ true
    → printed text ps depth p ≡ line text ps depth p ++ flat_map (printed text ps (depth + 1)) (reverse (children ps p))
unfolding printed printed_within
printed_step text ps formed depth p live = printed_deep text ps formed ps.next (suc ps.next) depth p (omega arith) (omega arith) live

-- the children before one, or all of them
abbrev pub done : {T : Type 0} → PoolTree T → ℕ → Option ℕ → List ℕ
done tree pool None = children (map_of tree) pool
done tree pool (Some c) = children_below (map_of tree) pool c

-- a number that falls as the children's names rise
abbrev pub still : ℕ → Option ℕ → ℕ
still next None = 0
still next (Some c) = next - c

still_below : (next c : ℕ) (o : Option ℕ) → c < next → ((m : ℕ) → o ≡ Some m → c < m) → still next o < still next (Some c)
still_below next c None low above = omega arith
still_below next c (Some m) low above = omega (arith, above m refl)

module _ {T : Type 0} (tree : PoolTree T) where
  pub done_start : (pool : ℕ) (o : Option ℕ)
      → MatchOption o (newest_of (record_of tree.records) pool ≡ None) (λ c. (parent_of (record_of tree.records) c ≡ Some pool) × (older_of (record_of tree.records) c ≡ None))
      → done tree pool o ≡ []
  done_start pool None none = sym (children_start tree pool) ∙ ap (children_from tree pool) none
  done_start pool (Some c) at = sym (children_rest tree pool c at.0) ∙ ap (children_from tree pool) at.1

  pub oldest_is : (pool c : ℕ) (o : Option ℕ)
      → MatchOption o (newest_of (record_of tree.records) pool ≡ None) (λ c. (parent_of (record_of tree.records) c ≡ Some pool) × (older_of (record_of tree.records) c ≡ None))
      → o ≡ Some c → parent_of (record_of tree.records) c ≡ Some pool
  oldest_is pool c None none is = cc
  oldest_is pool c (Some d) at is = (let e : d ≡ c = cc in subst (λ k. parent_of (record_of tree.records) k ≡ Some pool) e at.0)

  -- the next younger child is a child too, and greater
  pub younger_child : (pool c m : ℕ) → parent_of (record_of tree.records) c ≡ Some pool → younger_of (record_of tree.records) c ≡ Some m → (parent_of (record_of tree.records) m ≡ Some pool) × (c < m)
  younger_child pool c m at young =
      let older = tree.linked.younger c m young in
      let s = siblings tree.root tree.next (record_of tree.records) tree.linked c m older in
      let both : Some s.0 ≡ Some pool = sym s.1.1 ∙ at in
      let e : s.0 ≡ pool = cc in
      (s.1.0 ∙ ap Some e, (newest_child (record_of tree.records) s.0 m c (sym (tree.linked.older m s.0 s.1.0) ∙ older)).1)

  pub done_next : (pool c : ℕ) → parent_of (record_of tree.records) c ≡ Some pool → done tree pool (younger_of (record_of tree.records) c) ≡ c ∷ children_below (map_of tree) pool c
  done_next pool c at = by (younger_of (record_of tree.records) c) refl
    where
      by : (o : Option ℕ) → younger_of (record_of tree.records) c ≡ o → done tree pool o ≡ c ∷ children_below (map_of tree) pool c
      by None none = sym (children_start tree pool) ∙ ap (children_from tree pool) (tree.linked.youngest c pool at none)
      by (Some m) young =
          sym (children_rest tree pool m (younger_child pool c m at young).0) ∙ ap (children_from tree pool) (tree.linked.younger c m young)

  pub child_is_live : (pool c : ℕ) → parent_of (record_of tree.records) c ≡ Some pool → is_live (map_of tree) c ≡ true
  child_is_live pool c at = tree_live tree c ∙ parent_live (record_of tree.records) c pool at

  pub child_named : (pool c : ℕ) → parent_of (record_of tree.records) c ≡ Some pool → (pool < c) × (c < tree.next)
  child_named pool c at = (tree.linked.rises c pool at, tree.linked.named c (parent_live (record_of tree.records) c pool at))

  pub younger_still : (pool c : ℕ) → parent_of (record_of tree.records) c ≡ Some pool → still tree.next (younger_of (record_of tree.records) c) < tree.next - c
  younger_still pool c at = still_below tree.next c (younger_of (record_of tree.records) c) (child_named pool c at).1 (λ m young. (younger_child pool c m at young).1)

pub none_by : (o : Option ℕ) → ((c : ℕ) → o ≡ Some c → ⊥) → o ≡ None
none_by None never = refl
none_by (Some c) never = absurd (never c refl)
