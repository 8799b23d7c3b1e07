-- Brigades stand on their pools, and references are counted, whatever the next name of a pool is.
use Rattle.std.proofs.Common.{◌≡◌, ℕ, zero, suc, ◌<◌, ◌≤◌, true, not, Option, List, [], ◌∷◌, refl, sym, ap, ◌∙◌, inl, inr, arith}
use Rattle.std.specs.Prelude.{count_by}
use Rattle.std.proofs.lemmas.Bool.{cases_eq, cases_lt}
use Rattle.run_model.specs.declared.payload.Payload.{Payload}
use Rattle.run_model.specs.Payloads.{is_file_ref}
use Rattle.run_model.specs.Pools.{Pools, no_cleanups, is_empty, is_live}
use Rattle.run_model.specs.RunOrder.{IsPoolMap}
use Rattle.run_model.specs.Sound.{sum_below}
use Rattle.brigade_ops.proofs.Counts.{held_count}
use Rattle.brigade_ops.specs.House.{all_refs, AreHoused}
use Rattle.bucket_store.specs.Items.{Items}

-- where the terms from a bound on are 0, a sum goes no further
sum_from : (f : ℕ → ℕ) (bound n : ℕ) → bound ≤ n → ((k : ℕ) → bound ≤ k → f k ≡ 0) → sum_below n f ≡ sum_below bound f
unfolding sum_below
sum_from f bound zero above none = let e : 0 ≡ bound = omega arith in ap (λ (k : ℕ). sum_below k f) e
sum_from f bound (suc n) above none =
    elim (cases_eq bound (suc n)) [
      | inl here ↦ ap (λ (k : ℕ). sum_below k f) (sym here)
      | inr apart ↦
          let last : f n ≡ 0 = none n (omega (arith, apart)) in
          let rest : sum_below n f ≡ sum_below bound f = sum_from f bound n (omega (arith, apart)) none in
          omega arith
    ]

pathless : (path : List ℕ) → (not (is_empty path) ≡ true → ⊥) → path ≡ []
pathless [] never = refl
pathless (n ∷ ns) never = absurd (never refl)

module _ (ps : Pools Payload) (formed : IsPoolMap ps) (now : ℕ) (named : (n : ℕ) → is_live ps n ≡ true → n < now) where
  no_payloads : (bound p : ℕ) → ((n : ℕ) → is_live ps n ≡ true → n < bound) → bound ≤ p → ps.payloads p ≡ no_cleanups
  unfolding is_live
  no_payloads bound p below above = formed.bare p (pathless (ps.path p) (λ live. omega (arith, below p live)))

  no_refs : (bound file : ℕ) → ((n : ℕ) → is_live ps n ≡ true → n < bound) → (p : ℕ) → bound ≤ p → held_count (is_file_ref file) (ps.payloads p) ≡ 0
  no_refs bound file below p above = ap (held_count (is_file_ref file)) (no_payloads bound p below above)

  same_refs : (file : ℕ) → all_refs ps file ≡ all_refs (record ps { next = now }) file
  same_refs file =
      let refs = λ (p : ℕ). held_count (is_file_ref file) (ps.payloads p) in
      elim (cases_lt now ps.next) [
        | inl less ↦ sum_from refs now ps.next (omega arith) (no_refs now file named)
        | inr more ↦ sym (sum_from refs ps.next now more (no_refs ps.next file formed.named))
      ]

  pub house_renumbered : (lists : ℕ → Option Items) (pool_of : ℕ → Option ℕ) (references : ℕ → ℕ) → AreHoused lists pool_of references ps
      → AreHoused lists pool_of references (record ps { next = now })
  house_renumbered lists pool_of references house = record { held = house.held; there = house.there; referred = λ f. house.referred f ∙ same_refs f }
