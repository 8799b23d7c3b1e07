-- The walk through the pools under one, by their links.
use Rattle.std.specs.Prelude.{◌≡◌, ℕ, suc, ◌<◌, true, false, ◌==◌, ◌||◌, Option, None, Some, List, [], ◌∷◌, ◌++◌, map, reverse, length, refl}
use Rattle.std.specs.List.{flat_map, list_any}
use Rattle.std.specs.Option.{option_map_or}
use Rattle.std.proofs.Common.{sym, ◌∙◌, ap, subst, inl, inr, arith}
use Rattle.std.proofs.lemmas.List.{append_assoc, append-nil, reverse-append, length-append}
use Rattle.std.proofs.lemmas.List.Concat.{flat_map-append}
use Rattle.std.proofs.lemmas.List.Folds.{list_any-append}
use Rattle.std.proofs.lemmas.Bool.{or_cases, or_left, or_right, eq-eqb, eqb-true}
use Rattle.run_model.specs.declared.effect.CleanupKind.{CleanupKind}
use Rattle.run_model.specs.declared.effect.CleanupKind.TheVariants.{Plain, Pre}
use Rattle.run_model.specs.Pools.{Pools, is_live, is_in}
use Rattle.run_model.specs.RunOrder.{children_below, children, order, order_under, Turn, turns_at, turns, turns_under}
use Rattle.run_model.proofs.RunOrderLaws.{order_step, turns_step, children_child, child_live}
use Rattle.pool_tree.specs.declared.tree.PoolTree.{PoolTree}
use Rattle.pool_tree.specs.Records.{record_of, parent_of, newest_of, older_of}
use Rattle.pool_tree.specs.Handed.{before_kind, before_turn}
use Rattle.pool_tree.specs.Tree.{map_of}
use Rattle.pool_tree.proofs.Newest.{newest_child}
use Rattle.pool_tree.proofs.Paths.{children_are}
use Rattle.pool_tree.proofs.Trees.{tree_next, tree_formed}

-- a child of the pool and those before it
abbrev pub children_from : {T : Type 0} → PoolTree T → ℕ → Option ℕ → List ℕ
children_from tree pool child = option_map_or (λ c. c ∷ children_below (map_of tree) pool c) child []

-- a number that falls along the children
abbrev pub left_of : Option ℕ → ℕ
left_of None = 0
left_of (Some c) = suc c

left_below : (o : Option ℕ) (c : ℕ) → ((d : ℕ) → o ≡ Some d → d < c) → left_of o < suc c
left_below None c below = omega arith
left_below (Some d) c below = omega (arith, below d refl)

module _ {T : Type 0} (tree : PoolTree T) where
  pub children_start : (pool : ℕ) → children_from tree pool (newest_of (record_of tree.records) pool) ≡ children (map_of tree) pool
  unfolding map_of
  children_start pool =
      ap (children_from tree pool) (tree.linked.newest pool)
      ∙ sym (children_are tree.root tree.next (record_of tree.records) tree.linked pool tree.next)
      ∙ ap (children_below (map_of tree) pool) (sym (tree_next tree))

  pub children_rest : (pool c : ℕ) → parent_of (record_of tree.records) c ≡ Some pool → children_from tree pool (older_of (record_of tree.records) c) ≡ children_below (map_of tree) pool c
  unfolding map_of
  children_rest pool c at =
      ap (children_from tree pool) (tree.linked.older c pool at)
      ∙ sym (children_are tree.root tree.next (record_of tree.records) tree.linked pool c)

  pub first_child : (pool c : ℕ) → newest_of (record_of tree.records) pool ≡ Some c → parent_of (record_of tree.records) c ≡ Some pool
  first_child pool c at = (newest_child (record_of tree.records) pool tree.next c (sym (tree.linked.newest pool) ∙ at)).0

  pub next_child : (pool c d : ℕ) → parent_of (record_of tree.records) c ≡ Some pool → older_of (record_of tree.records) c ≡ Some d → (parent_of (record_of tree.records) d ≡ Some pool) × (d < c)
  next_child pool c d at older = newest_child (record_of tree.records) pool c d (sym (tree.linked.older c pool at) ∙ older)

  pub next_left : (pool c : ℕ) → parent_of (record_of tree.records) c ≡ Some pool → left_of (older_of (record_of tree.records) c) < suc c
  next_left pool c at = left_below (older_of (record_of tree.records) c) c (λ d older. (next_child pool c d at older).1)

  pub children_live : (pool n : ℕ) → is_in n (children (map_of tree) pool) ≡ true → is_live (map_of tree) n ≡ true
  children_live pool n inside = child_live (map_of tree) (tree_formed tree) pool n (children_child (map_of tree) pool n (map_of tree).next inside)

  -- the last of the waiting pools is found, and its children wait
  pub found_step : (waiting found : List ℕ) (n : ℕ) → is_live (map_of tree) n ≡ true
      → flat_map (order (map_of tree)) (waiting ++ children (map_of tree) n) ++ reverse (found ++ n ∷ []) ≡ flat_map (order (map_of tree)) (waiting ++ n ∷ []) ++ reverse found
  unfolding order_under
  found_step waiting found n live =
      rw (
        flat_map-append (order (map_of tree)) waiting (children (map_of tree) n),
        flat_map-append (order (map_of tree)) waiting (n ∷ []),
        append-nil (order (map_of tree) n),
        order_step (map_of tree) (tree_formed tree) n live,
        reverse-append found (n ∷ []),
      )
      (append_assoc (flat_map (order (map_of tree)) waiting) (flat_map (order (map_of tree)) (children (map_of tree) n)) (n ∷ reverse found)
      ∙ ap (λ xs. flat_map (order (map_of tree)) waiting ++ xs) (sym (append_assoc (flat_map (order (map_of tree)) (children (map_of tree) n)) (n ∷ []) (reverse found)))
      ∙ sym (append_assoc (flat_map (order (map_of tree)) waiting) (flat_map (order (map_of tree)) (children (map_of tree) n) ++ n ∷ []) (reverse found)))

  pub waiting_left : (waiting : List ℕ) (n : ℕ) → is_live (map_of tree) n ≡ true
      → length (flat_map (order (map_of tree)) (waiting ++ children (map_of tree) n)) < length (flat_map (order (map_of tree)) (waiting ++ n ∷ []))
  unfolding order_under
  waiting_left waiting n live =
      rw (
        flat_map-append (order (map_of tree)) waiting (children (map_of tree) n),
        flat_map-append (order (map_of tree)) waiting (n ∷ []),
        append-nil (order (map_of tree) n),
        order_step (map_of tree) (tree_formed tree) n live,
      )
      (simp length-append (omega arith))

  pub last_waits : (waiting : List ℕ) (n : ℕ) → is_in n (waiting ++ n ∷ []) ≡ true
  last_waits waiting n = list_any-append (λ m. m == n) waiting (n ∷ []) ∙ or_right (is_in n waiting) (is_in n (n ∷ [])) (or_left (n == n) false (eq-eqb n n refl))

  pub waits_on : (waiting : List ℕ) (n : ℕ) → ((m : ℕ) → is_in m (waiting ++ n ∷ []) ≡ true → is_live (map_of tree) m ≡ true)
      → (m : ℕ) → is_in m (waiting ++ children (map_of tree) n) ≡ true → is_live (map_of tree) m ≡ true
  waits_on waiting n live m inside =
      elim (or_cases (is_in m waiting) (is_in m (children (map_of tree) n)) (sym (list_any-append (λ k. k == m) waiting (children (map_of tree) n)) ∙ inside)) [
        | inl was ↦ live m (list_any-append (λ k. k == m) waiting (n ∷ []) ∙ or_left (is_in m waiting) (is_in m (n ∷ [])) was)
        | inr fresh ↦ children_live n m fresh
      ]

  none_first : (pool : ℕ) (o : Option ℕ) → children_from tree pool o ≡ [] → o ≡ None
  none_first pool None at = refl
  none_first pool (Some c) at = cc

  -- a pool whose list of children is empty has no newest child
  pub childless : (pool : ℕ) → children (map_of tree) pool ≡ [] → newest_of (record_of tree.records) pool ≡ None
  childless pool none = none_first pool (newest_of (record_of tree.records) pool) (children_start pool ∙ none)

-- The walk through the turns of the pools under one.

-- the turns of the run order that a waiting turn stands for: its own, and before it those of the pools under it
abbrev due : {T : Type 0} → Pools T → CleanupKind → ℕ → List Turn
due ps Pre n = (n, Pre) ∷ []
due ps Plain n = turns ps n

unfoldable pub turns_due : {T : Type 0} → Pools T → Turn → List Turn
turns_due ps turn = due ps turn.1 turn.0

-- the last turns of the children of the pool from a child on
abbrev pub behind_from : {T : Type 0} → PoolTree T → ℕ → Option ℕ → List Turn
behind_from tree pool child = map (λ (c : ℕ). (c, Plain)) (children_from tree pool child)

behind_due : {T : Type 0} (ps : Pools T) (xs : List ℕ) → flat_map (turns_due ps) (map (λ (c : ℕ). (c, Plain)) xs) ≡ flat_map (turns ps) xs
unfolding turns_due
behind_due ps [] = refl
behind_due ps (x ∷ xs) = ap (λ (ys : List Turn). turns ps x ++ ys) (behind_due ps xs)

behind_at : (m : ℕ) (xs : List ℕ) → list_any (turns_at m) (map (λ (c : ℕ). (c, Plain)) xs) ≡ is_in m xs
behind_at m [] = refl
behind_at m (x ∷ xs) = ap (λ b. (x == m) || b) (behind_at m xs)

module _ {T : Type 0} (tree : PoolTree T) where
  pub behind_start : (pool : ℕ) → flat_map (turns_due (map_of tree)) (map (λ (c : ℕ). (c, Plain)) (children (map_of tree) pool)) ≡ turns_under (map_of tree) pool
  unfolding turns_under
  behind_start pool = behind_due (map_of tree) (children (map_of tree) pool)

  pub behind_live : (pool n : ℕ) → list_any (turns_at n) (map (λ (c : ℕ). (c, Plain)) (children (map_of tree) pool)) ≡ true → is_live (map_of tree) n ≡ true
  behind_live pool n inside = children_live tree pool n (sym (behind_at n (children (map_of tree) pool)) ∙ inside)

  -- what stands for a turn is what stands for those before it, and it
  due_step : (turn : Turn) → is_live (map_of tree) turn.0 ≡ true → turns_due (map_of tree) turn ≡ flat_map (turns_due (map_of tree)) (before_turn (map_of tree) turn) ++ turn ∷ []
  unfolding turns_due before_turn
  due_step turn live = by_kind turn.1
    where
      by_kind : (k : CleanupKind) → due (map_of tree) k turn.0 ≡ flat_map (λ (t : Turn). due (map_of tree) t.1 t.0) (before_kind k (map_of tree) turn.0) ++ (turn.0, k) ∷ []
      by_kind Pre = refl
      by_kind Plain =
          turns_step (map_of tree) (tree_formed tree) turn.0 live
          ∙ ap (λ (xs : List Turn). (turn.0, Pre) ∷ (xs ++ (turn.0, Plain) ∷ [])) (sym (behind_start turn.0))

  pub turn_step : (waiting found : List Turn) (turn : Turn) → is_live (map_of tree) turn.0 ≡ true
      → flat_map (turns_due (map_of tree)) (waiting ++ before_turn (map_of tree) turn) ++ reverse (found ++ turn ∷ []) ≡ flat_map (turns_due (map_of tree)) (waiting ++ turn ∷ []) ++ reverse found
  turn_step waiting found turn live =
      let f = turns_due (map_of tree) in
      let before = before_turn (map_of tree) turn in
      rw (
        flat_map-append f waiting before,
        flat_map-append f waiting (turn ∷ []),
        append-nil (f turn),
        due_step turn live,
        reverse-append found (turn ∷ []),
      )
      (append_assoc (flat_map f waiting) (flat_map f before) (turn ∷ reverse found)
      ∙ ap (λ (xs : List Turn). flat_map f waiting ++ xs) (sym (append_assoc (flat_map f before) (turn ∷ []) (reverse found)))
      ∙ sym (append_assoc (flat_map f waiting) (flat_map f before ++ turn ∷ []) (reverse found)))

  pub turns_left : (waiting : List Turn) (turn : Turn) → is_live (map_of tree) turn.0 ≡ true
      → length (flat_map (turns_due (map_of tree)) (waiting ++ before_turn (map_of tree) turn)) < length (flat_map (turns_due (map_of tree)) (waiting ++ turn ∷ []))
  turns_left waiting turn live =
      let f = turns_due (map_of tree) in
      rw (
        flat_map-append f waiting (before_turn (map_of tree) turn),
        flat_map-append f waiting (turn ∷ []),
        append-nil (f turn),
        due_step turn live,
      )
      (simp length-append (omega arith))

  pub last_turn_waits : (waiting : List Turn) (turn : Turn) → list_any (turns_at turn.0) (waiting ++ turn ∷ []) ≡ true
  last_turn_waits waiting turn =
      list_any-append (turns_at turn.0) waiting (turn ∷ []) ∙ or_right (list_any (turns_at turn.0) waiting) (list_any (turns_at turn.0) (turn ∷ [])) (or_left (turn.0 == turn.0) false (eq-eqb turn.0 turn.0 refl))

  before_live : (turn : Turn) → is_live (map_of tree) turn.0 ≡ true → (m : ℕ) → list_any (turns_at m) (before_turn (map_of tree) turn) ≡ true → is_live (map_of tree) m ≡ true
  unfolding before_turn
  before_live turn live m inside = by_kind turn.1 inside
    where
      by_kind : (k : CleanupKind) → list_any (turns_at m) (before_kind k (map_of tree) turn.0) ≡ true → is_live (map_of tree) m ≡ true
      by_kind Pre h = cc
      by_kind Plain h = elim (or_cases (turn.0 == m) (list_any (turns_at m) (map (λ (c : ℕ). (c, Plain)) (children (map_of tree) turn.0))) h) [
        | inl here ↦ subst (λ (k : ℕ). is_live (map_of tree) k ≡ true) (eqb-true turn.0 m here) live
        | inr below ↦ behind_live turn.0 m below
      ]

  pub turns_wait : (waiting : List Turn) (turn : Turn) → ((m : ℕ) → list_any (turns_at m) (waiting ++ turn ∷ []) ≡ true → is_live (map_of tree) m ≡ true)
      → (m : ℕ) → list_any (turns_at m) (waiting ++ before_turn (map_of tree) turn) ≡ true → is_live (map_of tree) m ≡ true
  turns_wait waiting turn live m inside =
      elim (or_cases (list_any (turns_at m) waiting) (list_any (turns_at m) (before_turn (map_of tree) turn)) (sym (list_any-append (turns_at m) waiting (before_turn (map_of tree) turn)) ∙ inside)) [
        | inl was ↦ live m (list_any-append (turns_at m) waiting (turn ∷ []) ∙ or_left (list_any (turns_at m) waiting) (list_any (turns_at m) (turn ∷ [])) was)
        | inr fresh ↦ before_live turn (live turn.0 (last_turn_waits waiting turn)) m fresh
      ]
