-- The links stand whatever the next name is, where the names of all pools are below it.
use Rattle.std.specs.Prelude.{◌≡◌, ℕ, zero, suc, ◌<◌, ◌≤◌, true, false, is_some, Option}
use Rattle.std.proofs.Common.{sym, ◌∙◌, inl, inr, arith}
use Rattle.std.proofs.lemmas.Bool.{cases_Bool, cases_eq, cases_lt}
use Rattle.pool_tree.specs.declared.records.Pool.{Pool}
use Rattle.pool_tree.specs.Records.{names, parent_of, newest_of}
use Rattle.pool_tree.specs.Links.{newest_below, RecordsLinked}
use Rattle.pool_tree.proofs.Newest.{named_is, below_there, parent_live}

module _ {T : Type 0} (records : ℕ → Option (Pool T)) (bound : ℕ) (named : (n : ℕ) → is_some (records n) ≡ true → n < bound) where
  -- no child has a name from the bound on
  none_above : (p n : ℕ) → bound ≤ n → names (parent_of records n) p ≡ false
  none_above p n above =
      elim (cases_Bool (names (parent_of records n) p)) [
        | inl e ↦ absurd (omega (arith, named n (parent_live records n p (named_is (parent_of records n) p e))))
        | inr e ↦ e
      ]

  -- so the newest child below a greater number is that below the bound
  pub newest_from : (p n : ℕ) → bound ≤ n → newest_below records p n ≡ newest_below records p bound
  newest_from p zero above = let e : bound ≡ 0 = omega arith in rw e
  newest_from p (suc n) above =
      elim (cases_eq bound (suc n)) [
        | inl here ↦ rw here
        | inr apart ↦ below_there records p n (none_above p n (omega (arith, apart))) ∙ newest_from p n (omega (arith, apart))
      ]

module _ {T : Type 0} (root old new : ℕ) (records : ℕ → Option (Pool T)) (linked : RecordsLinked root old records)
    (named : (n : ℕ) → is_some (records n) ≡ true → n < new) where
  new_newest : (p : ℕ) → newest_of records p ≡ newest_below records p new
  new_newest p =
      elim (cases_lt old new) [
        | inl more ↦ linked.newest p ∙ sym (newest_from records old linked.named p new (omega arith))
        | inr less ↦ linked.newest p ∙ newest_from records new named p old less
      ]

  pub renamed_linked : RecordsLinked root new records
  renamed_linked = assumption (linked, named, new_newest)
