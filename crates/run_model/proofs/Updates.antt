-- Laws of `upd`: reading what was written, and writing twice.
use Rattle.std.proofs.Common.{◌≡◌, ◌≢◌, ℕ, Bool, true, false, ◌==◌, ◌⊎◌, inl, inr, refl, sym, ◌∙◌, ap, cond, eq-eqb, ne_eqb, eqb-true}
use Rattle.std.proofs.Math.Path.{fun_ext}
use Rattle.std.proofs.lemmas.Bool.Decides.{eqb_tells}
use Rattle.run_model.specs.Indexed.{upd}

-- what was written is read
pub upd_at : {X : Type 0} (f : ℕ → X) (i : ℕ) (v : X) → upd f i v i ≡ v
unfolding upd
upd_at f i v = rw (eq-eqb i i refl) refl

-- elsewhere nothing has changed
pub upd_off : {X : Type 0} (f : ℕ → X) (i k : ℕ) (v : X) → k ≢ i → upd f i v k ≡ f k
unfolding upd
upd_off f i k v ne = rw (ne_eqb k i ne) refl

-- at each index either the one or the other
pub upd_either : {X : Type 0} (f : ℕ → X) (i k : ℕ) (v : X) → ((k ≡ i) × (upd f i v k ≡ v)) ⊎ ((k ≢ i) × (upd f i v k ≡ f k))
unfolding upd
upd_either f i k v = elim (eqb_tells k i) [ inl p ↦ inl (p.1, rw (p.0) refl) | inr p ↦ inr (p.1, rw (p.0) refl) ]

-- the later of two writes at one index counts
pub upd_upd : {X : Type 0} (f : ℕ → X) (i : ℕ) (v w : X) → upd (upd f i v) i w ≡ upd f i w
unfolding upd
upd_upd f i v w = fun_ext (λ k. twice (k == i) v w (f k)) where
  twice : {X : Type 0} (b : Bool) (v w x : X) → cond b w (cond b v x) ≡ cond b w x
  twice true v w x = refl
  twice false v w x = refl

-- writing what is there changes nothing
pub upd_same : {X : Type 0} (f : ℕ → X) (i : ℕ) → upd f i (f i) ≡ f
upd_same f i = fun_ext (λ k. elim (upd_either f i k (f i)) [ inl p ↦ p.1 ∙ sym (ap f p.0) | inr p ↦ p.1 ])

-- writes at two indexes in either order
pub upd_swap : {X : Type 0} (f : ℕ → X) (i j : ℕ) (v w : X) → i ≢ j → upd (upd f i v) j w ≡ upd (upd f j w) i v
unfolding upd
upd_swap f i j v w ne = fun_ext (λ k. either (k == j) (k == i) v w (f k) (λ at_j at_i. ne (sym (eqb-true k i at_i) ∙ eqb-true k j at_j))) where
  either : {X : Type 0} (b c : Bool) (v w x : X) → (b ≡ true → c ≡ true → ⊥) → cond b w (cond c v x) ≡ cond c v (cond b w x)
  either true true v w x apart = absurd (apart refl refl)
  either true false v w x apart = refl
  either false true v w x apart = refl
  either false false v w x apart = refl
