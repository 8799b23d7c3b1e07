-- The parts of all connections, joined.
use Rattle.std.proofs.Common.{◌≡◌, ◌≢◌, ℕ, zero, suc, ◌+◌, ◌≤◌, ◌-◌, Bool, true, false, not, cond, List, [], ◌∷◌, Option, Some, None, inl, inr, refl, sym, ◌∙◌, ap, subst, arith}
use Rattle.std.proofs.lemmas.Bool.{cases_Bool, cases_eq}
use Rattle.run_model.specs.declared.payload.Payload.{Payload}
use Rattle.run_model.specs.Pools.{Pools, is_empty, is_in, is_live, is_under, planted, Cleanups}
use Rattle.run_model.specs.Chains.{Connection}
use Rattle.run_model.specs.Worlds.{World, tree_of, tree_below, with_part}
use Rattle.model_laws.specs.Parts.{belongs, part}
use Rattle.model_laws.specs.JoinedParts.{HasItsPart, ArePoolsOf, JoinedPartStays, PartsAreTheWhole}
use Rattle.run_model.proofs.Updates.{upd_at, upd_off}
use Rattle.model_laws.proofs.parts.Paths.{under_belongs, part_path, part_payloads, part_off}
use Rattle.model_laws.proofs.parts.Own.{same_pools}

-- two maps have the same at n
record SameAt (n : ℕ) (ps new : Pools Payload) : Type 0 where
  path : new.path n ≡ ps.path n
  payloads : new.payloads n ≡ ps.payloads n

-- what goes through c in its part is as in the whole
pub through : (ps : Pools Payload) (c n : ℕ) → is_in c ((part c ps).path n) ≡ true → belongs c (ps.path n) ≡ true
through ps c n inside = elim (cases_Bool (belongs c (ps.path n))) [
  | inl here ↦ here
  | inr off ↦ absurd (let none : is_in c [] ≡ true = sym (ap (is_in c) (part_off ps c n off).0) ∙ inside in cc)
]

module _ (ps : Pools Payload) (c : Connection) (h : HasItsPart ps c) where
  its_path : (n : ℕ) → c.path n ≡ (part c.conn ps).path n
  its_path n = ap (λ (f : ℕ → List ℕ). f n) h.path

  its_payloads : (n : ℕ) → c.payloads n ≡ (part c.conn ps).payloads n
  its_payloads n = ap (λ (f : ℕ → Cleanups Payload). f n) h.payloads

  there : (n : ℕ) → is_in c.conn (c.path n) ≡ true → (c.path n ≡ ps.path n) × (c.payloads n ≡ ps.payloads n)
  there n inside =
      let here = through ps c.conn n (ap (is_in c.conn) (sym (its_path n)) ∙ inside) in
      (its_path n ∙ part_path ps c.conn n here, its_payloads n ∙ part_payloads ps c.conn n here)

  -- what was joined stays so
  still : (old : Pools Payload) (n : ℕ) → SameAt n ps old → SameAt n ps (with_part (Some c) old)
  still old n at = by_test (is_in c.conn (c.path n)) refl where
    by_test : (t : Bool) → is_in c.conn (c.path n) ≡ t → SameAt n ps (with_part (Some c) old)
    by_test true is = record {
      path = ap (λ (b : Bool). cond b (c.path n) (old.path n)) is ∙ (there n is).0;
      payloads = ap (λ (b : Bool). cond b (c.payloads n) (old.payloads n)) is ∙ (there n is).1;
    }
    by_test false is = record {
      path = ap (λ (b : Bool). cond b (c.path n) (old.path n)) is ∙ at.path;
      payloads = ap (λ (b : Bool). cond b (c.payloads n) (old.payloads n)) is ∙ at.payloads;
    }

  -- and its own pools are joined
  joins : (old : Pools Payload) (n : ℕ) → is_under ps c.conn n ≡ true → SameAt n ps (with_part (Some c) old)
  unfolding is_under
  joins old n under =
      let here = under_belongs ps c.conn n under in
      let inside : is_in c.conn (c.path n) ≡ true = ap (is_in c.conn) (its_path n ∙ part_path ps c.conn n here) ∙ under in
      record {
        path = ap (λ (b : Bool). cond b (c.path n) (old.path n)) inside ∙ (there n inside).0;
        payloads = ap (λ (b : Bool). cond b (c.payloads n) (old.payloads n)) inside ∙ (there n inside).1;
      }

pub joined_stays : JoinedPartStays
joined_stays c ps h = same_pools (with_part (Some c) ps) ps (λ n. (at n).path) (λ n. (at n).payloads) refl where
  at : (n : ℕ) → SameAt n ps (with_part (Some c) ps)
  at n = still ps c h ps n (record { path = refl; payloads = refl })

module _ (conns : ℕ → Option Connection) (ps root : Pools Payload) (parts : (k : ℕ) (c : Connection) → conns k ≡ Some c → HasItsPart ps c) where
  -- one more connection
  with_next : (old : Pools Payload) (n : ℕ) (o : Option Connection) → ((c : Connection) → o ≡ Some c → HasItsPart ps c) → SameAt n ps old → SameAt n ps (with_part o old)
  with_next old n None each at = at
  with_next old n (Some c) each at = still ps c (each c refl) old n at

  more : (d m n : ℕ) → SameAt n ps (tree_below m conns root) → SameAt n ps (tree_below (d + m) conns root)
  unfolding tree_below
  more zero m n at = subst (λ (k : ℕ). SameAt n ps (tree_below k conns root)) (omega arith) at
  more (suc d) m n at =
      subst (λ (k : ℕ). SameAt n ps (tree_below k conns root)) (sum d m) (with_next (tree_below (d + m) conns root) n (conns (suc (d + m))) (λ c is. parts (suc (d + m)) c is) (more d m n at)) where
        sum : (d m : ℕ) → suc (d + m) ≡ suc d + m
        sum d m = omega arith

  up_to : (m last n : ℕ) → m ≤ last → SameAt n ps (tree_below m conns root) → SameAt n ps (tree_below last conns root)
  up_to m last n le at = (let sum : (d : ℕ) × (d + m ≡ last) = le_difference m last le in subst (λ (k : ℕ). SameAt n ps (tree_below k conns root)) sum.1 (more sum.0 m n at)) where
    le_difference : (m last : ℕ) → m ≤ last → (d : ℕ) × (d + m ≡ last)
    le_difference m last le = (last - m, omega arith)

  joined : (k : ℕ) (c : Connection) (n : ℕ) → conns (suc k) ≡ Some c → is_under ps c.conn n ≡ true → SameAt n ps (tree_below (suc k) conns root)
  unfolding tree_below
  joined k c n is under = subst (λ (o : Option Connection). SameAt n ps (with_part o (tree_below k conns root))) (sym is) (joins ps c (parts (suc k) c is) (tree_below k conns root) n under)

  start : (n : ℕ) → SameAt n ps root → SameAt n ps (tree_below zero conns root)
  unfolding tree_below
  start n at = at

  next_stays : (m : ℕ) → (tree_below m conns root).next ≡ root.next
  unfolding tree_below
  next_stays zero = refl
  next_stays (suc m) = of_part (conns (suc m)) ∙ next_stays m where
    of_part : (o : Option Connection) → (with_part o (tree_below m conns root)).next ≡ (tree_below m conns root).next
    of_part None = refl
    of_part (Some c) = refl

no_path : (ps : Pools Payload) (n : ℕ) → is_live ps n ≡ false → ps.path n ≡ []
unfolding is_live
no_path ps n dead = by_path (ps.path n) dead where
  by_path : (xs : List ℕ) → not (is_empty xs) ≡ false → xs ≡ []
  by_path [] dead = refl
  by_path (m ∷ xs) dead = absurd (cc)

module _ (w : World) (ps : Pools Payload) (h : ArePoolsOf w ps) where
  at_root : SameAt w.common.root ps (record (planted w.common.root) { next = w.common.pools })
  unfolding planted
  at_root = record { path = upd_at (λ (k : ℕ). []) w.common.root (w.common.root ∷ []) ∙ sym h.root; payloads = sym h.bare }

  at_dead : (n : ℕ) → n ≢ w.common.root → is_live ps n ≡ false → SameAt n ps (record (planted w.common.root) { next = w.common.pools })
  unfolding planted
  at_dead n ne dead = record { path = upd_off (λ (k : ℕ). []) w.common.root n (w.common.root ∷ []) ne ∙ sym (no_path ps n dead); payloads = sym (h.formed.bare n (no_path ps n dead)) }

  joined_at : (n : ℕ) → SameAt n ps (tree_of w)
  joined_at n = elim (cases_eq n w.common.root) [
    | inl same ↦ up_to w.conns ps _ h.parts 0 w.last n (omega arith)
        (start w.conns ps _ h.parts n (subst (λ (k : ℕ). SameAt k ps (record (planted w.common.root) { next = w.common.pools })) (sym same) at_root))
    | inr ne ↦ (elim (cases_Bool (is_live ps n)) [
      | inl live ↦ (let s = h.covered n live ne in up_to w.conns ps _ h.parts (suc s.number) w.last n (omega (arith, s.given)) (joined w.conns ps _ h.parts s.number s.conn n s.there s.under))
      | inr dead ↦ up_to w.conns ps _ h.parts 0 w.last n (omega arith) (start w.conns ps _ h.parts n (at_dead n ne dead))
    ])
  ]

pub parts_whole : PartsAreTheWhole
parts_whole w ps h = same_pools (tree_of w) ps (λ n. (joined_at w ps h n).path) (λ n. (joined_at w ps h n).payloads)
    (next_stays w.conns ps (record (planted w.common.root) { next = w.common.pools }) h.parts w.last ∙ sym h.next)
