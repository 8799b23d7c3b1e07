-- References to files, in a part and in the whole.
use Rattle.std.proofs.Common.{◌≡◌, ℕ, zero, suc, Bool, true, false, ◌&&◌, ◌||◌, not, cond, List, [], ◌∷◌, ◌++◌, map, reverse, Option, None, inl, inr, refl, sym, ◌∙◌, ap}
use Rattle.std.specs.List.{list_any, flat_map}
use Rattle.std.proofs.Math.Path.{fun_ext}
use Rattle.std.proofs.Math.Bool.{or-false}
use Rattle.std.proofs.lemmas.Bool.{cases_Bool, both_ways, false_from_ne_true, or_cases, or_left, or_right}
use Rattle.std.proofs.lemmas.List.{reverse-append}
use Rattle.std.proofs.lemmas.List.Folds.{list_any-append}
use Rattle.run_model.specs.declared.payload.Payload.{Payload}
use Rattle.run_model.specs.Indexed.{any_below}
use Rattle.run_model.specs.Pools.{Pools, is_under}
use Rattle.run_model.specs.RunOrder.{is_child, children_below, own_run, runs_within, run_order, pre_run}
use Rattle.run_model.specs.Payloads.{is_file_ref}
use Rattle.run_model.specs.Files.{Files, is_referred, let_go}
use Rattle.run_model.specs.Holding.{refers}
use Rattle.model_laws.specs.Parts.{belongs, part, HasPart}
use Rattle.model_laws.specs.PartSteps.{OwnFiles}
use Rattle.run_model.proofs.References.{emptied_back, held_refers, held_parts}
use Rattle.model_laws.proofs.PoolsGone.{Emptying}
use Rattle.model_laws.proofs.parts.Paths.{under_belongs, part_payloads, part_off}
use Rattle.model_laws.proofs.parts.Order.{child_under}

-- What a clear hands on.

abbrev pub hands : ℕ → List (ℕ × Payload) → Bool
hands file run = list_any (λ x. is_file_ref file x.1) run

turned : (file : ℕ) (xs : List Payload) → list_any (is_file_ref file) (reverse xs) ≡ true → list_any (is_file_ref file) xs ≡ true
turned file [] h = h
turned file (x ∷ xs) h = elim (or_cases (list_any (is_file_ref file) (reverse xs)) (is_file_ref file x || false)
    (sym (list_any-append (is_file_ref file) (reverse xs) (x ∷ [])) ∙ (sym (ap (list_any (is_file_ref file)) (reverse-append (x ∷ []) xs)) ∙ h))) [
      | inl later ↦ or_right (is_file_ref file x) (list_any (is_file_ref file) xs) (turned file xs later)
      | inr here ↦ or_left (is_file_ref file x) (list_any (is_file_ref file) xs) (sym (or-false (is_file_ref file x)) ∙ here)
    ]

with_pool : (file p : ℕ) (xs : List Payload) → hands file (map (λ x. (p, x)) xs) ≡ true → list_any (is_file_ref file) xs ≡ true
with_pool file p [] h = h
with_pool file p (x ∷ xs) h = elim (or_cases (is_file_ref file x) (hands file (map (λ x. (p, x)) xs)) h) [
  | inl here ↦ or_left (is_file_ref file x) (list_any (is_file_ref file) xs) here
  | inr later ↦ or_right (is_file_ref file x) (list_any (is_file_ref file) xs) (with_pool file p xs later)
]

own_refers : (file p : ℕ) (ps : Pools Payload) → hands file (own_run ps p) ≡ true → refers ps p file ≡ true
unfolding own_run
own_refers file p ps h =
    held_parts file (ps.payloads p).pre (ps.payloads p).plain
    ∙ or_right (list_any (is_file_ref file) (ps.payloads p).pre) _ (turned file (ps.payloads p).plain (with_pool file p (reverse (ps.payloads p).plain) h))

early_refers : (file p : ℕ) (ps : Pools Payload) → hands file (pre_run ps p) ≡ true → refers ps p file ≡ true
unfolding pre_run
early_refers file p ps h =
    held_parts file (ps.payloads p).pre (ps.payloads p).plain
    ∙ or_left (list_any (is_file_ref file) (ps.payloads p).pre) _ (turned file (ps.payloads p).pre (with_pool file p (reverse (ps.payloads p).pre) h))

-- a pool under c that refers to the file
pub record HasRef (c file : ℕ) (ps : Pools Payload) : Type 0 where
  pub at : ℕ
  pub under : is_under ps c at ≡ true
  pub refers : refers ps at file ≡ true

module _ (c file : ℕ) (ps : Pools Payload) (h : HasPart ps c) where
  brought : (p : ℕ) (f : ℕ → List (ℕ × Payload)) → ((n : ℕ) → is_child ps p n ≡ true → hands file (f n) ≡ true → HasRef c file ps) → (m : ℕ) → hands file (flat_map f (children_below ps p m)) ≡ true
      → HasRef c file ps
  unfolding children_below
  brought p f each zero handed = absurd (cc)
  brought p f each (suc m) handed = elim (cases_Bool (is_child ps p m)) [
    | inl child ↦
        (let there = rw child at handed in
        elim (or_cases (hands file (f m)) (hands file (flat_map f (children_below ps p m))) (sym (list_any-append (λ x. is_file_ref file x.1) (f m) (flat_map f (children_below ps p m))) ∙ there)) [
          | inl here ↦ each m child here
          | inr later ↦ brought p f each m later
        ])
    | inr other ↦ (let there = rw other at handed in brought p f each m there)
  ]

  handed_within : (depth p : ℕ) → is_under ps c p ≡ true → hands file (runs_within depth ps p) ≡ true → HasRef c file ps
  unfolding runs_within
  handed_within zero p under handed = absurd (cc)
  handed_within (suc depth) p under handed =
      let below : List (ℕ × Payload) = flat_map (runs_within depth ps) (children_below ps p ps.next) in
      elim (or_cases (hands file (pre_run ps p)) (hands file (below ++ own_run ps p)) (sym (list_any-append (λ x. is_file_ref file x.1) (pre_run ps p) (below ++ own_run ps p)) ∙ handed)) [
        | inl early ↦ record { at = p; under = under; refers = early_refers file p ps early }
        | inr later ↦ (elim (or_cases (hands file below) (hands file (own_run ps p)) (sym (list_any-append (λ x. is_file_ref file x.1) below (own_run ps p)) ∙ later)) [
          | inl under_it ↦ brought p (runs_within depth ps) (λ n child there. handed_within depth n (child_under c ps h p n under child) there) ps.next under_it
          | inr own ↦ record { at = p; under = under; refers = own_refers file p ps own }
        ])
      ]

  pub handed_from : (p : ℕ) → is_under ps c p ≡ true → hands file (run_order ps p) ≡ true → HasRef c file ps
  unfolding run_order
  handed_from p under handed = handed_within ps.next p under handed

-- References of a part.

module _ (c file : ℕ) (ps : Pools Payload) (within : (q : ℕ) → refers ps q file ≡ true → belongs c (ps.path q) ≡ true) where
  refers_alike : (q : ℕ) → refers (part c ps) q file ≡ refers ps q file
  refers_alike q = elim (cases_Bool (belongs c (ps.path q))) [
    | inl here ↦ ap (held_refers file) (part_payloads ps c q here)
    | inr off ↦ ap (held_refers file) (part_off ps c q off).1 ∙ sym (false_from_ne_true (refers ps q file) (λ there. both_ways (belongs c (ps.path q)) off (within q there)))
  ]

  pub referred_alike : is_referred (part c ps) file ≡ is_referred ps file
  unfolding part
  referred_alike = ap (any_below ps.next) (fun_ext refers_alike)

-- Files that close where a pool under c goes, with all or with its subpools.

module _ (c p : ℕ) (ps left : Pools Payload) (h : HasPart ps c) (own : OwnFiles c ps) (under : is_under ps c p ≡ true)
    (so : Emptying p ps left) where
  left_within : (file : ℕ) → HasRef c file ps → (q : ℕ) → refers left q file ≡ true → belongs c (left.path q) ≡ true
  left_within file first q there =
      let was = emptied_back p ps left so.payloads q file there in
      ap (belongs c) (so.apart q was.0) ∙ under_belongs ps c q (own.apart first.at q file first.under first.refers was.1)

  closed_alike : (fs : Files) (file : ℕ) → (let_go (run_order ps p) (part c left) fs).opened file ≡ (let_go (run_order ps p) left fs).opened file
  closed_alike fs file = by_test (hands file (run_order ps p)) refl where
    by_test : (t : Bool) → hands file (run_order ps p) ≡ t → cond (t && not (is_referred (part c left) file)) None (fs.opened file) ≡ cond (t && not (is_referred left file)) None (fs.opened file)
    by_test true handed = ap (λ (b : Bool). cond (not b) None (fs.opened file)) (referred_alike c file left (left_within file (handed_from c file ps h p under handed)))
    by_test false handed = refl

  pub let_go_alike : (fs : Files) → let_go (run_order ps p) (part c left) fs ≡ let_go (run_order ps p) left fs
  let_go_alike fs = ap (λ (opened : ℕ → Option (List ℕ)). record fs { opened = opened }) (fun_ext (closed_alike fs))
