-- Filters by their numbers, and the names of neighbours.
use Rattle.std.proofs.Common.{◌≡◌, ◌≢◌, ◌==◌, ℕ, zero, suc, ◌<◌, Bool, false, true, ◌||◌, List, [], ◌∷◌, ◌++◌, length, set, Some, refl, ap, ◌∙◌, arith}
use Rattle.std.specs.Prelude.{slice_get}
use Rattle.std.specs.List.{list_any}
use Rattle.std.proofs.lemmas.Bool.{eq-eqb, ne_eqb, or_left, or_right}
use Rattle.std.proofs.lemmas.List.Folds.{list_any-append}
use Rattle.run_model.specs.Pools.{is_in}
use Rattle.module_run.specs.declared.conn.Conn.{Conn}
use Rattle.module_run.specs.Conns.{call_name, filter_at}
use Rattle.interp_state.specs.Seen.{is_running}
use Rattle.module_run.specs.Stacked.{names_of}
use Rattle.interp_state.proofs.Running.{running_waits}

module _ {X : Type 0} where
  pub get_here : (xs : List X) (i : ℕ) (w : X) → i < length xs → slice_get (set xs i w) i ≡ Some w
  get_here [] i w lt = absurd (omega (arith, lt))
  get_here (x ∷ xs) zero w lt = refl
  get_here (x ∷ xs) (suc i) w lt = get_here xs i w (omega (arith, lt))

  pub get_other : (xs : List X) (i j : ℕ) (w : X) → j ≢ i → slice_get (set xs i w) j ≡ slice_get xs j
  get_other [] i j w ne = refl
  get_other (x ∷ xs) zero zero w ne = absurd (ne refl)
  get_other (x ∷ xs) zero (suc j) w ne = refl
  get_other (x ∷ xs) (suc i) zero w ne = refl
  get_other (x ∷ xs) (suc i) (suc j) w ne = get_other xs i j w (λ e. ne (ap suc e))

-- a name that is none of these
pub names_none : (c : Conn) (name : ℕ) (ks : List ℕ) → ((k : ℕ) → is_in k ks ≡ true → name ≢ call_name (filter_at c k)) → list_any (λ w. name == w) (names_of c ks) ≡ false
names_none c name [] each = refl
names_none c name (k ∷ ks) each =
    ap (λ (t : Bool). t || list_any (λ w. name == w) (names_of c ks)) (ne_eqb name (call_name (filter_at c k)) (each k (or_left (k == k) (is_in k ks) (eq-eqb k k refl))))
    ∙ names_none c name ks (λ j there. each j (or_right (k == j) (is_in j ks) there))

or_last : (a b : Bool) → (b || (a || false)) ≡ (a || b)
or_last true true = refl
or_last true false = refl
or_last false true = refl
or_last false false = refl

-- the last one that waits is the one that runs
pub running_last : (name : ℕ) (waits : List ℕ) (n : ℕ) → is_running 0 (waits ++ name ∷ []) n ≡ is_running name waits n
running_last name waits zero = refl
running_last name waits (suc m) =
    running_waits 0 (waits ++ name ∷ []) (suc m) not_0 not_0
    ∙ (list_any-append (λ w. suc m == w) waits (name ∷ []) ∙ or_last (suc m == name) (list_any (λ w. suc m == w) waits)) where
      not_0 : suc m ≢ 0
      not_0 e = omega (arith, e)
