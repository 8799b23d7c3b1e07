-- A file to which no pool under one refers stays open where that one is cleared or destroyed.
use Rattle.std.proofs.Common.{◌≡◌, ℕ, zero, suc, Bool, true, false, ◌&&◌, not, cond, List, refl, sym, ap, ◌∙◌, arith}
use Rattle.std.specs.Prelude.{if◌then◌else◌, count_by}
use Rattle.std.specs.List.{list_any}
use Rattle.bucket_kinds.specs.Device.{Device, Held, Missing}
use Rattle.run_model.specs.declared.payload.Payload.{Payload}
use Rattle.run_model.specs.Holding.{refers}
use Rattle.run_model.specs.Payloads.{is_file_ref}
use Rattle.run_model.specs.Pools.{Pools, is_live, is_under, all_held}
use Rattle.run_model.specs.RunOrder.{IsPoolMap, run_order}
use Rattle.run_model.proofs.Sums.{all_none}
use Rattle.brigade_ops.specs.Files.{SameButOpen}
use Rattle.brigade_ops.proofs.Counts.{any_none, any_some, run_counted}

pub same_device : (d : Device) → SameButOpen d d
same_device d = record { named = refl; next = refl; failures = refl; plan = refl }

none_counted : (test : Payload → Bool) (xs : List Payload) → list_any test xs ≡ false → count_by test xs ≡ 0
none_counted test xs none = go (count_by test xs) refl where
  go : (n : ℕ) → count_by test xs ≡ n → count_by test xs ≡ 0
  go zero e = e
  go (suc n) e = absurd (let some = any_some test xs (omega (arith, e)) in let both : true ≡ false = sym some ∙ none in cc)

none_handed : (ps : Pools Payload) → IsPoolMap ps → (pool : ℕ) → is_live ps pool ≡ true → (file : ℕ) → ((p : ℕ) → is_under ps pool p ≡ true → refers ps p file ≡ false)
    → list_any (λ (x : ℕ × Payload). is_file_ref file x.1) (run_order ps pool) ≡ false
none_handed ps formed pool live file none =
    any_none (λ (x : ℕ × Payload). is_file_ref file x.1) (run_order ps pool)
    (run_counted (is_file_ref file) ps formed pool live
    ∙ all_none ps.next (λ p. cond (is_under ps pool p) (count_by (is_file_ref file) (all_held (ps.payloads p))) 0) (λ p lt. none_at p (is_under ps pool p) refl)) where
      none_at : (p : ℕ) (b : Bool) → is_under ps pool p ≡ b → cond b (count_by (is_file_ref file) (all_held (ps.payloads p))) 0 ≡ 0
      none_at p true under = none_counted (is_file_ref file) (all_held (ps.payloads p)) (none p under)
      none_at p false under = refl

pub unreferred_stays : (ps : Pools Payload) → IsPoolMap ps → (pool : ℕ) → is_live ps pool ≡ true → (file : ℕ) → ((p : ℕ) → is_under ps pool p ≡ true → refers ps p file ≡ false)
    → (left : Bool) (now before : Held)
    → now ≡ (if list_any (λ (x : ℕ × Payload). is_file_ref file x.1) (run_order ps pool) && not left then Missing else before) → now ≡ before
unreferred_stays ps formed pool live file none left now before is = is ∙ ap (λ (t : Bool). if t && not left then Missing else before) (none_handed ps formed pool live file none)
