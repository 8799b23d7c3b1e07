-- The walk goes on where the text does.
use Rattle.std.specs.Prelude.{◌≡◌, ℕ, zero, suc, ◌+◌, ◌-◌, ◌<◌, ◌≤◌, Bool, true, false, not, if◌then◌else◌, Option, None, Some, MatchOption, IfSome, codes, decimal, List, [], ◌∷◌, ◌++◌, reverse}
use Rattle.std.specs.Prelude.{length, refl}
use Rattle.std.specs.List.{flat_map}
use Rattle.std.proofs.Common.{sym, ◌∙◌, ap, subst, inl, inr, arith}
use Rattle.std.proofs.lemmas.List.{append-nil, append_assoc, append_cancel_left, length-append}
use Rattle.std.proofs.lemmas.Bool.{eq-eqb, ne_eqb, cases_eq}
use mathlib.Core.List.{reverse-cons}
use Rattle.run_model.specs.Pools.{Pools, is_live, is_under, is_in, is_empty}
use Rattle.run_model.specs.RunOrder.{children}
use Rattle.run_model.proofs.RunOrderLaws.{under_above, under_itself}
use Rattle.pool_tree.specs.declared.tree.PoolTree.{PoolTree}
use Rattle.pool_tree.specs.Records.{record_of, parent_of, newest_of, older_of, younger_of}
use Rattle.pool_tree.specs.Tree.{map_of}
use Rattle.pool_tree.specs.Printed.{line, margin, spaced_all, marked_all}
use Rattle.pool_tree.specs.Left.{from_on, level_of, behind_path, text_behind, text_left, IsPlace}
use Rattle.pool_tree.proofs.Cleared.{top_or_under}
use Rattle.pool_tree.proofs.Paths.{placed_path, place_at, step}
use Rattle.pool_tree.proofs.Printing.{done, done_start, done_next, oldest_is, still, younger_still, younger_child, child_named, child_is_live}
use Rattle.pool_tree.proofs.Trees.{tree_formed, under_step, under_top, live_named}

module _ {T : Type 0} (tree : PoolTree T) where
  IsChildOf : ℕ → Option ℕ → Type 0
  IsChildOf pool o = (c : ℕ) → o ≡ Some c → parent_of (record_of tree.records) c ≡ Some pool

  from_none : (k : ℕ) → from_on k (record_of tree.records) None ≡ []
  unfolding from_on
  from_none zero = refl
  from_none (suc k) = refl

  -- the older children and those from one on are all
  from_whole : (pool k : ℕ) (o : Option ℕ) → IsChildOf pool o → still tree.next o ≤ k → reverse (done tree pool o) ++ from_on k (record_of tree.records) o ≡ reverse (children (map_of tree) pool)
  unfolding from_on IsChildOf
  from_whole pool zero None child enough = append-nil (reverse (children (map_of tree) pool))
  from_whole pool zero (Some c) child enough = absurd (omega (arith, enough, (child_named tree pool c (child c refl)).1))
  from_whole pool (suc k) None child enough = append-nil (reverse (children (map_of tree) pool))
  from_whole pool (suc k) (Some c) child enough =
      let at = child c refl in
      let younger = younger_of (record_of tree.records) c in
      let rest = from_on k (record_of tree.records) younger in
      let fall = younger_still tree pool c at in
      sym (append_assoc (reverse (done tree pool (Some c))) (c ∷ []) rest)
      ∙ (ap (λ (xs : List ℕ). xs ++ rest) (sym (reverse-cons c (done tree pool (Some c))) ∙ ap reverse (sym (done_next tree pool c at)))
      ∙ from_whole pool k younger (λ m is. (younger_child tree pool c m at is).0) (omega (arith, fall, enough)))

  from_same : (pool k l : ℕ) (o : Option ℕ) → IsChildOf pool o → still tree.next o ≤ k → still tree.next o ≤ l → from_on k (record_of tree.records) o ≡ from_on l (record_of tree.records) o
  from_same pool k l o child first second =
      append_cancel_left (reverse (done tree pool o)) (from_on k (record_of tree.records) o) (from_on l (record_of tree.records) o)
      (from_whole pool k o child first ∙ sym (from_whole pool l o child second))

  still_low : (o : Option ℕ) → still tree.next o ≤ tree.next
  still_low None = omega arith
  still_low (Some c) = omega arith

  -- one, and the younger ones
  from_step : (pool c : ℕ) → parent_of (record_of tree.records) c ≡ Some pool
      → from_on tree.next (record_of tree.records) (Some c) ≡ c ∷ from_on tree.next (record_of tree.records) (younger_of (record_of tree.records) c)
  unfolding from_on IsChildOf
  from_step pool c at = go tree.next refl where
    younger : Option ℕ
    younger = younger_of (record_of tree.records) c

    go : (n : ℕ) → tree.next ≡ n → from_on n (record_of tree.records) (Some c) ≡ c ∷ from_on tree.next (record_of tree.records) younger
    go zero e = absurd (omega (arith, e, (child_named tree pool c at).1))
    go (suc n) e =
        let fall = younger_still tree pool c at in
        ap (λ (xs : List ℕ). c ∷ xs) (from_same pool n tree.next younger (λ m is. (younger_child tree pool c m at is).0) (omega (arith, fall, e)) (still_low younger))

  path_child : (n p : ℕ) → parent_of (record_of tree.records) n ≡ Some p → (map_of tree).path n ≡ n ∷ (map_of tree).path p
  unfolding map_of
  path_child n p at = step tree.root tree.next (record_of tree.records) tree.linked n ∙ ap (placed_path (map_of tree).path n) (place_at (record_of tree.records) n p at)

  path_cons : (n : ℕ) → is_live (map_of tree) n ≡ true → (above : List ℕ) × ((map_of tree).path n ≡ n ∷ above)
  unfolding is_live
  path_cons n live = go ((map_of tree).path n) refl where
    go : (xs : List ℕ) → (map_of tree).path n ≡ xs → (above : List ℕ) × ((map_of tree).path n ≡ n ∷ above)
    go [] is = absurd (let none : not (is_empty ((map_of tree).path n)) ≡ false = ap (λ (xs : List ℕ). not (is_empty xs)) is in cc)
    go (m ∷ xs) is = (xs, is ∙ ap (λ k. k ∷ xs) ((tree_formed tree).first n m xs is))

  under_live : (top n : ℕ) → is_under (map_of tree) top n ≡ true → is_live (map_of tree) n ≡ true
  unfolding is_under is_live
  under_live top n under = go ((map_of tree).path n) refl where
    go : (xs : List ℕ) → (map_of tree).path n ≡ xs → not (is_empty ((map_of tree).path n)) ≡ true
    go [] is = absurd (let none : is_in top ((map_of tree).path n) ≡ false = ap (is_in top) is in cc)
    go (m ∷ xs) is = ap (λ (ys : List ℕ). not (is_empty ys)) is

  module _ (text : ℕ → ℕ → List ℕ) (top start : ℕ) where
    abbrev behind : ℕ → List ℕ
    behind n = text_behind text tree top start n

    abbrev level : ℕ → ℕ
    level n = level_of top start ((map_of tree).path n)

    abbrev younger_from : ℕ → List ℕ
    younger_from c = from_on tree.next (record_of tree.records) (younger_of (record_of tree.records) c)

    -- nothing comes behind the top
    pub behind_top : is_live (map_of tree) top ≡ true → behind top ≡ []
    unfolding text_behind behind_path
    behind_top live = let p = path_cons top live in rw (p.1, eq-eqb top top refl) refl

    pub level_child : (n p : ℕ) → parent_of (record_of tree.records) n ≡ Some p → (n ≡ top → ⊥) → level n ≡ level p + 1
    unfolding level_of
    level_child n p at apart = rw (path_child n p at, ne_eqb n top apart) refl

    behind_child : (n p : ℕ) → parent_of (record_of tree.records) n ≡ Some p → (n ≡ top → ⊥) → behind n ≡ flat_map (text (level n)) (younger_from n) ++ behind p
    unfolding text_behind behind_path
    behind_child n p at apart =
        ap (behind_path text younger_from top start) (path_child n p at)
        ∙ (ap (λ (t : Bool). if t then [] else flat_map (text (level_of top start (n ∷ (map_of tree).path p))) (younger_from n) ++ behind p) (ne_eqb n top apart)
        ∙ ap (λ (xs : List ℕ). flat_map (text (level_of top start xs)) (younger_from n) ++ behind p) (sym (path_child n p at)))

    -- a pool comes where none younger does
    pub behind_up : (n p : ℕ) → parent_of (record_of tree.records) n ≡ Some p → (n ≡ top → ⊥) → younger_of (record_of tree.records) n ≡ None → behind p ≡ behind n
    behind_up n p at apart none =
        sym (behind_child n p at apart ∙ ap (λ (xs : List ℕ). flat_map (text (level n)) xs ++ behind p) (ap (from_on tree.next (record_of tree.records)) none ∙ from_none tree.next))

    -- the next younger one comes
    pub behind_beside : (n p y : ℕ) → parent_of (record_of tree.records) n ≡ Some p → (n ≡ top → ⊥) → (y ≡ top → ⊥) → younger_of (record_of tree.records) n ≡ Some y
        → text_left text tree top start (Some (y, level n)) ≡ behind n
    behind_beside n p y at apart apart_y young =
        let at_y = (younger_child tree p n y at young).0 in
        let same : level y ≡ level n = level_child y p at_y apart_y ∙ sym (level_child n p at apart) in
        let all : younger_from n ≡ y ∷ younger_from y = ap (from_on tree.next (record_of tree.records)) young ∙ from_step p y at_y in
        ap (λ (xs : List ℕ). text (level n) y ++ xs) (behind_child y p at_y apart_y ∙ ap (λ (l : ℕ). flat_map (text l) (younger_from y) ++ behind p) same)
        ∙ (sym (append_assoc (text (level n) y) (flat_map (text (level n)) (younger_from y)) (behind p))
        ∙ (ap (λ (xs : List ℕ). flat_map (text (level n)) xs ++ behind p) (sym all) ∙ sym (behind_child n p at apart)))

    -- below a pool its oldest child comes, and what is behind that
    pub behind_below : (n o : ℕ)
        → MatchOption (Some o) (newest_of (record_of tree.records) n ≡ None) (λ c. (parent_of (record_of tree.records) c ≡ Some n) × (older_of (record_of tree.records) c ≡ None)) → (o ≡ top → ⊥)
        → text_left text tree top start (Some (o, level n + 1)) ≡ flat_map (text (level n + 1)) (reverse (children (map_of tree) n)) ++ behind n
    unfolding IsChildOf
    behind_below n o first apart =
        let at = first.0 in
        let none : done tree n (Some o) ≡ [] = done_start tree n (Some o) first in
        let all : o ∷ younger_from o ≡ reverse (children (map_of tree) n)
        = sym (from_step n o at) ∙ (sym (ap (λ (xs : List ℕ). reverse xs ++ from_on tree.next (record_of tree.records) (Some o)) none)
        ∙ from_whole n tree.next (Some o) (λ c is. oldest_is tree n c (Some o) first is) (still_low (Some o))) in
        ap (λ (xs : List ℕ). text (level n + 1) o ++ xs) (behind_child o n at apart ∙ ap (λ (l : ℕ). flat_map (text l) (younger_from o) ++ behind n) (level_child o n at apart))
        ∙ (sym (append_assoc (text (level n + 1) o) (flat_map (text (level n + 1)) (younger_from o)) (behind n))
        ∙ ap (λ (xs : List ℕ). flat_map (text (level n + 1)) xs ++ behind n) all)

    -- a level is no more than the name
    pub level_low : (k n : ℕ) → n < k → start ≤ top → is_under (map_of tree) top n ≡ true → level n ≤ n
    unfolding level_of
    level_low zero n lt low under = absurd (omega arith)
    level_low (suc k) n lt low under = elim (cases_eq n top) [
      | inl here ↦ (let live = under_live top n under in let p = path_cons n live in rw (p.1, eq-eqb n top here) (omega (arith, here)))
      | inr apart ↦ (let above : top < n = (let le = under_above (map_of tree) (tree_formed tree) top n under in omega (arith, apart)) in elim (top_or_under (parent_of (record_of tree.records) n)) [
        | inl none ↦ absurd (let no : is_under (map_of tree) top n ≡ false = under_top tree top n above none in cc)
        | inr some ↦ (let rises = tree.linked.rises n some.0 some.1 in
            let less : level some.0 ≤ some.0 = level_low k some.0 (omega arith) low (sym (under_step tree top n some.0 above some.1) ∙ under) in
            rw (path_child n some.0 some.1, ne_eqb n top apart) (omega arith))
      ])
    ]

  -- The places of the walk.

  module _ (top start : ℕ) where
    above_top : (n level : ℕ) → IsPlace tree top start n level → (n ≡ top → ⊥) → top < n
    above_top n level at apart = (let le = under_above (map_of tree) (tree_formed tree) top n at.under in omega (arith, apart))

    -- a place that is not the top has a pool above it
    pub no_end : (n level : ℕ) → IsPlace tree top start n level → (n ≡ top → ⊥) → parent_of (record_of tree.records) n ≡ None → ⊥
    no_end n level at apart none = (let no : is_under (map_of tree) top n ≡ false = under_top tree top n (above_top n level at apart) none in let yes = at.under in absurd (cc))

    pub parent_is : (n level : ℕ) → IsPlace tree top start n level → (n ≡ top → ⊥) → (p : ℕ) × (parent_of (record_of tree.records) n ≡ Some p)
    parent_is n level at apart = elim (top_or_under (parent_of (record_of tree.records) n)) [ inl none ↦ absurd (no_end n level at apart none) | inr some ↦ some ]

    pub level_above : (n level p : ℕ) → IsPlace tree top start n level → (n ≡ top → ⊥) → parent_of (record_of tree.records) n ≡ Some p → level ≡ level_of top start ((map_of tree).path p) + 1
    level_above n level p at apart up = at.level_is ∙ level_child (λ _ _. []) top start n p up apart

    pub place_above : (n level p : ℕ) → IsPlace tree top start n level → (n ≡ top → ⊥) → parent_of (record_of tree.records) n ≡ Some p → IsPlace tree top start p (level - 1)
    place_above n level p at apart up =
        let under = sym (under_step tree top n p (above_top n level at apart) up) ∙ at.under in
        record {
          live = under_live top p under;
          under = under;
          low = at.low;
          level_is = (let l = level_above n level p at apart up in omega (arith, l));
        }

    -- a child of a pool that is there
    pub place_child : (n level c : ℕ) → IsPlace tree top start n level → parent_of (record_of tree.records) c ≡ Some n → IsPlace tree top start c (level + 1) × (c ≡ top → ⊥)
    place_child n level c at up =
        let le = under_above (map_of tree) (tree_formed tree) top n at.under in
        let rises = tree.linked.rises c n up in
        let apart : (c ≡ top → ⊥) = λ e. omega (arith, e) in (
          record {
            live = child_is_live tree n c up;
            under = under_step tree top c n (omega arith) up ∙ at.under;
            low = at.low;
            level_is = ap (λ l. l + 1) at.level_is ∙ sym (level_child (λ _ _. []) top start c n up apart);
          },
          apart,
        )

    -- the next younger one beside a place
    pub place_beside : (n level p y : ℕ) → IsPlace tree top start n level → (n ≡ top → ⊥) → parent_of (record_of tree.records) n ≡ Some p → younger_of (record_of tree.records) n ≡ Some y
        → IsPlace tree top start y level × (y ≡ top → ⊥)
    place_beside n level p y at apart up young =
        let beside = (younger_child tree p n y up young).0 in
        let above = place_child p (level - 1) y (place_above n level p at apart up) beside in
        let l = level_above n level p at apart up in
        let same : level - 1 + 1 ≡ level = omega (arith, l) in
        (subst (λ k. IsPlace tree top start y k) same above.0, above.1)

    -- the level fits where the next name does
    pub level_fits : (n level : ℕ) → IsPlace tree top start n level → level + 1 ≤ tree.next
    level_fits n level at =
        let low = level_low (λ _ _. []) top start (suc n) n (omega arith) at.low at.under in
        let named = live_named tree n at.live in
        let l = at.level_is in
        omega arith

  -- the top is a place
  pub place_top : (n start : ℕ) → is_live (map_of tree) n ≡ true → start ≤ n → IsPlace tree n start n start
  unfolding level_of
  place_top n start live low = record {
    live = live;
    under = under_itself (map_of tree) (tree_formed tree) n live;
    low = low;
    level_is = (let p = path_cons n live in rw (p.1, eq-eqb n n refl) refl);
  }

pub if_some : {X : Type 0} (P : X → Type 0) (o : Option X) → IfSome o P → (x : X) → o ≡ Some x → P x
if_some P None told x e = cc
if_some P (Some y) told x e = (let is : y ≡ x = cc in subst P is told)

pub line_some : {T : Type 0} (text : T → List ℕ) (ps : Pools T) (depth p : ℕ) → 0 < length (line text ps depth p)
unfolding line
line_some text ps depth p = omega (arith, length-append (margin depth ++ codes "pool " ++ decimal p ++ marked_all text (ps.payloads p).pre ++ spaced_all text (ps.payloads p).plain) (10 ∷ []))

pub none_of : {X : Type 0} (o : Option X) → ((x : X) → o ≡ Some x → ⊥) → o ≡ None
none_of None never = refl
none_of (Some x) never = absurd (never x refl)
