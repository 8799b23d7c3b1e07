-- Which files close where a pool under c goes is told alike in the part of c and in the whole.
use Rattle.run_model.proofs.References.{held_refers}
use Rattle.std.proofs.Common.{◌≡◌, ℕ, Bool, true, false, ◌&&◌, not, nat_lt, List, [], ◌∷◌, inl, inr, refl, sym, ◌∙◌, ap}
use Rattle.std.specs.List.{list_any}
use Rattle.std.proofs.lemmas.Bool.{cases_Bool, ltb-true, ltb-false}
use Rattle.run_model.specs.declared.payload.Payload.{Payload}
use Rattle.run_model.specs.Files.{is_referred}
use Rattle.run_model.specs.Holding.{refers}
use Rattle.run_model.specs.Payloads.{is_file_ref}
use Rattle.run_model.specs.Pools.{Pools, is_empty, is_live, is_under}
use Rattle.run_model.specs.RunOrder.{IsPoolMap, run_order}
use Rattle.model_laws.specs.Parts.{belongs, part, HasPart}
use Rattle.model_laws.specs.PartSteps.{OwnFiles}
use Rattle.model_laws.proofs.parts.Order.{order_alike}
use Rattle.model_laws.proofs.parts.Paths.{under_belongs}
use Rattle.model_laws.proofs.parts.References.{HasRef, hands, handed_from, referred_alike}
use Rattle.model_laws.proofs.parts.Within.{StaysWithin}

-- Whether the last reference to a file is among what a clear of a pool hands on, which leaves these pools.
abbrev pub lets_go : Pools Payload → ℕ → Pools Payload → ℕ → Bool
lets_go ps n left file = list_any (λ x. is_file_ref file x.1) (run_order ps n) && not (is_referred left file)

module _ (c n : ℕ) (ps left : Pools Payload) (h : HasPart ps c) (own : OwnFiles c ps) (within : StaysWithin c ps left) (formed : IsPoolMap left) (under : is_under ps c n ≡ true) where
  no_ref : (file : ℕ) → list_any (is_file_ref file) [] ≡ true → ⊥
  no_ref file there = cc

  live_then : (q file : ℕ) → refers left q file ≡ true → is_live left q ≡ true
  unfolding is_live
  live_then q file there = by_path (left.path q) refl where
    by_path : (xs : List ℕ) → left.path q ≡ xs → not (is_empty xs) ≡ true
    by_path [] none = absurd (no_ref file (ap (held_refers file) (sym (formed.bare q none)) ∙ there))
    by_path (m ∷ xs) is = refl

  -- where a file that was handed on is referred to still, that is under c
  still_inside : (file : ℕ) → HasRef c file ps → (q : ℕ) → refers left q file ≡ true → belongs c (left.path q) ≡ true
  still_inside file first q there = elim (cases_Bool (is_under ps c q)) [
    | inl here ↦ under_belongs left c q (within.inside q (inl here) (live_then q file there))
    | inr off ↦ (elim (cases_Bool (nat_lt q ps.next)) [
      | inl given ↦
          let was : refers ps q file ≡ true = ap (held_refers file) (sym (within.off q (ltb-true q ps.next given) off).1) ∙ there in
          absurd (let both : true ≡ false = sym (own.apart first.at q file first.under first.refers was) ∙ off in cc)
      | inr fresh ↦ under_belongs left c q (within.inside q (inr (ltb-false q ps.next fresh)) (live_then q file there))
    ])
  ]

  pub lets_go_alike : (file : ℕ) → lets_go (part c ps) n (part c left) file ≡ lets_go ps n left file
  lets_go_alike file = ap (λ run. hands file run && not (is_referred (part c left) file)) (order_alike c ps h n under) ∙ by_test (hands file (run_order ps n)) refl where
    by_test : (t : Bool) → hands file (run_order ps n) ≡ t → (t && not (is_referred (part c left) file)) ≡ (t && not (is_referred left file))
    by_test true handed = ap not (referred_alike c file left (still_inside file (handed_from c file ps h n under handed)))
    by_test false handed = refl
