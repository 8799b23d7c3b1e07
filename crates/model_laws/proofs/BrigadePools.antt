-- On which pool a brigade lies, where brigades are written, filled, emptied and returned: a brigade that is left lies where it lay.
use Rattle.std.proofs.Common.{◌≡◌, ℕ, Bool, true, false, ◌==◌, cond, List, [], Some, refl, sym, ◌∙◌, ap}
use Rattle.run_model.specs.declared.bucket.Brigade.{Brigade}
use Rattle.run_model.specs.declared.bucket.BrigadeVar.{BrigadeVar}
use Rattle.run_model.specs.declared.bucket.BrigadeVar.TheVariants as var
use Rattle.run_model.specs.declared.bucket.NamedBucket.{NamedBucket}
use Rattle.run_model.specs.Indexed.{upd}
use Rattle.run_model.specs.Effects.{cleaned, handed_over, returned_var, with_items}
use Rattle.run_model.specs.Sound.{brigade_pool}
use Rattle.run_model.proofs.Names.{at_each, at_two}
use Rattle.model_laws.proofs.NamedPools.{live_pool}

-- what a brigade that is left lies on
abbrev pub KeepsOn : (ℕ → Type 0) → BrigadeVar → BrigadeVar → Type 0
KeepsOn Stays old new = (w : Brigade) → new ≡ var.Live w → (v : Brigade) × (old ≡ var.Live v) × (w.on ≡ v.on) × ((m : ℕ) → v.on ≡ Some m → Stays m)

-- the same where no pool goes
abbrev pub KeepsPool : BrigadeVar → BrigadeVar → Type 0
KeepsPool old new = KeepsOn (λ m. Unit {0}) old new

pub pool_kept : (v w : BrigadeVar) → KeepsPool v w → (n : ℕ) → brigade_pool w ≡ Some n → brigade_pool v ≡ Some n
pool_kept v w keeps n is = (let there = live_pool w n is in let old = keeps there.0 there.1 in ap brigade_pool old.1 ∙ sym old.2 ∙ there.2)

pub same_on : (v : BrigadeVar) → KeepsPool v v
same_on v w e = (w, e, refl, λ m at. tt)

changed_on : (v w x : Brigade) → x.on ≡ v.on → var.Live x ≡ var.Live w → (y : Brigade) × (var.Live v ≡ var.Live y) × (w.on ≡ y.on) × ((m : ℕ) → y.on ≡ Some m → Unit {0})
changed_on v w x same e = (let is : x ≡ w = cc in (v, refl, sym (ap (λ (y : Brigade). y.on) is) ∙ same, λ m at. tt))

pub cleaned_on : (v : BrigadeVar) → KeepsPool v (cleaned v)
cleaned_on var.Null w e = absurd (cc)
cleaned_on var.Gone w e = absurd (cc)
cleaned_on (var.Live v) w e = changed_on v w _ refl e

pub handed_on : (v : BrigadeVar) → KeepsPool v (handed_over v)
handed_on var.Null w e = absurd (cc)
handed_on var.Gone w e = absurd (cc)
handed_on (var.Live v) w e = changed_on v w _ refl e

pub filled_on : (items : List NamedBucket) (v : BrigadeVar) → KeepsPool v (with_items items v)
filled_on items var.Null w e = absurd (cc)
filled_on items var.Gone w e = absurd (cc)
filled_on items (var.Live v) w e = changed_on v w _ refl e

pub returned_on : (call : ℕ) (v : BrigadeVar) → KeepsPool v (returned_var call v)
returned_on call var.Null w e = absurd (cc)
returned_on call var.Gone w e = absurd (cc)
returned_on call (var.Live v) w e = changed_on v w _ refl e

module _ (g : ℕ → BrigadeVar) where
  pub clean_on : (b k : ℕ) → KeepsPool (g k) (upd g b (cleaned (g b)) k)
  clean_on b = at_each KeepsPool g b (cleaned (g b)) (cleaned_on (g b)) same_on

  pub pass_on : (b k : ℕ) → KeepsPool (g k) (upd g b (handed_over (g b)) k)
  pass_on b = at_each KeepsPool g b (handed_over (g b)) (handed_on (g b)) same_on

  pub fill_on : (b : ℕ) (items : List NamedBucket) (k : ℕ) → KeepsPool (g k) (upd g b (with_items items (g b)) k)
  fill_on b items = at_each KeepsPool g b (with_items items (g b)) (filled_on items (g b)) same_on

  -- a has these items, and b is empty
  pub move_on : (a b : ℕ) (items : List NamedBucket) (k : ℕ) → KeepsPool (g k) (upd (upd g b (with_items [] (g b))) a (with_items items (g a)) k)
  move_on a b items = at_two KeepsPool g b a (with_items [] (g b)) (with_items items (g a)) (filled_on [] (g b)) (filled_on items (g a)) same_on

  pub return_on : (call k : ℕ) → KeepsPool (g k) (cond (k == 8) var.Null (returned_var call (g k)))
  return_on call k = by_test (k == 8) where
    by_test : (is_in : Bool) → KeepsPool (g k) (cond is_in var.Null (returned_var call (g k)))
    by_test true w e = absurd (cc)
    by_test false w e = returned_on call (g k) w e
