-- A value is put at the place that its name tells, or into the map, or taken away.
use Rattle.std.proofs.Common.{
  ◌≡◌,
  ◌≢◌,
  ◌<◌,
  ◌%◌,
  ℕ,
  Option,
  None,
  Some,
  is_some,
  List,
  length,
  ◌≤◌,
  slice_index_or,
  slice_set,
  true,
  refl,
  ap,
  sym,
  ◌∙◌,
  subst,
  ⊎_elim,
  rules,
  get_or-set_same,
  get_or-set_other,
}
use Rattle.std.proofs.lemmas.List.{get_or_past}
use Rattle.std.proofs.lemmas.Bool.{cases_eq, cases_lt, eq-eqb, ne_eqb}
use Rattle.std.specs.Option.{option_map}
use Rattle.name_table.specs.declared.table.Named.{Named}
use Rattle.name_table.specs.NameTable.{own, or_far, near_in, upd}

pub upd_on : {X : Type 0} (f : ℕ → X) (n : ℕ) (x : X) → upd f n x n ≡ x
unfolding upd
upd_on f n x = rw (eq-eqb n n refl) refl

pub upd_off : {X : Type 0} (f : ℕ → X) (n : ℕ) (x : X) (m : ℕ) → m ≢ n → upd f n x m ≡ f m
unfolding upd
upd_off f n x m ne = rw (ne_eqb m n ne) refl

-- what lies at a place is the value of name q, if it is one
abbrev pub OfNone : {V : Type 0} → ℕ → Option (Named V) → Type 0
OfNone q e = (n : ℕ) → n ≢ q → own n e ≡ None

pub of_named : {V : Type 0} (q : ℕ) (h : V) → OfNone q (Some (record { name = q; value = h }))
of_named q h n other = search rules

pub of_own : {V : Type 0} (q : ℕ) (e : Option (Named V)) (h : V) → own q e ≡ Some h → OfNone q e
of_own q None h same n other = refl
of_own q (Some near) h same n other = search rules

-- a value that lies near lies at a place
pub near_within : {V : Type 0} (xs : List (Option (Named V))) (q : ℕ) (h : V) → near_in xs q ≡ Some h → q % 64 < length xs
unfolding near_in
near_within xs q h is =
    ⊎_elim
    (λ (inside : q % 64 < length xs). inside)
    (λ (past : length xs ≤ q % 64). let clash : None ≡ Some h = sym (ap (own q) (get_or_past xs (q % 64) None past)) ∙ is in absurd (cc))
    (cases_lt (q % 64) (length xs))

-- a place of name q has another entry, which is of name q or of none
pub placed : {V : Type 0} (xs : List (Option (Named V))) (q : ℕ) (x : Option (Named V)) → q % 64 < length xs → OfNone q (slice_index_or xs (q % 64) None) → OfNone q x
    → (n : ℕ) → near_in (slice_set xs (q % 64) x) n ≡ upd (near_in xs) q (own q x) n
unfolding near_in
placed xs q x inside was is n =
    ⊎_elim
    (λ (same : n ≡ q). subst (λ (k : ℕ). own k (slice_index_or (slice_set xs (q % 64) x) (k % 64) None) ≡ upd (near_in xs) q (own q x) k) (sym same)
    (ap (own q) (get_or-set_same xs (q % 64) x None inside) ∙ sym (upd_on (near_in xs) q (own q x))))
    (λ (other : n ≢ q). ⊎_elim
    (λ (here : n % 64 ≡ q % 64). subst (λ (k : ℕ). own n (slice_index_or (slice_set xs (q % 64) x) k None) ≡ own n (slice_index_or xs k None)) (sym here)
    (ap (own n) (get_or-set_same xs (q % 64) x None inside) ∙ (is n other ∙ sym (was n other))))
    (λ (there : n % 64 ≢ q % 64). ap (own n) (get_or-set_other xs (q % 64) (n % 64) x None there))
    (cases_eq (n % 64) (q % 64)) ∙ sym (upd_off (near_in xs) q (own q x) n other))
    (cases_eq n q)

-- nothing changes where the same is written
pub same_written : {V : Type 0} (f : ℕ → Option V) (q : ℕ) (o : Option V) → f q ≡ o → (n : ℕ) → f n ≡ upd f q o n
same_written f q o is n =
    ⊎_elim
    (λ (same : n ≡ q). subst (λ (k : ℕ). f k ≡ upd f q o k) (sym same) (is ∙ sym (upd_on f q o)))
    (λ (other : n ≢ q). sym (upd_off f q o n other))
    (cases_eq n q)

-- what is near and what is far change at one name
pub both_changed : {V : Type 0} (near near2 far far2 : ℕ → Option V) (q : ℕ) (a b : Option V) → ((n : ℕ) → near2 n ≡ upd near q a n) → ((n : ℕ) → far2 n ≡ upd far q b n)
    → (n : ℕ) → or_far (near2 n) (far2 n) ≡ upd (λ k. or_far (near k) (far k)) q (or_far a b) n
both_changed near near2 far far2 q a b n_new f_new n =
    ⊎_elim
    (λ (same : n ≡ q). subst (λ (k : ℕ). or_far (near2 k) (far2 k) ≡ upd (λ k. or_far (near k) (far k)) q (or_far a b) k) (sym same)
    (ap (λ o. or_far o (far2 q)) (n_new q ∙ upd_on near q a) ∙ (ap (or_far a) (f_new q ∙ upd_on far q b) ∙ sym (upd_on (λ k. or_far (near k) (far k)) q (or_far a b)))))
    (λ (other : n ≢ q). ap (λ o. or_far o (far2 n)) (n_new n ∙ upd_off near q a n other)
    ∙ (ap (or_far (near n)) (f_new n ∙ upd_off far q b n other) ∙ sym (upd_off (λ k. or_far (near k) (far k)) q (or_far a b) n other)))
    (cases_eq n q)

pub own_named : {V : Type 0} (q : ℕ) (h : V) → own q (Some (record { name = q; value = h })) ≡ Some h
own_named q h = search rules

-- the place of a value that lies near is emptied
pub emptied : {V : Type 0} (xs : List (Option (Named V))) (q : ℕ) (o : Option V) → near_in xs q ≡ o → is_some o ≡ true → (n : ℕ) → near_in (slice_set xs (q % 64) None) n ≡ upd (near_in xs) q None n
unfolding near_in
emptied xs q None is some = absurd (cc)
emptied xs q (Some h) is some = placed xs q None (near_within xs q h is) (of_own q (slice_index_or xs (q % 64) None) h is) (λ n other. refl)

-- the value of a name that lies near is written anew
pub rewritten : {V : Type 0} (xs : List (Option (Named V))) (far : ℕ → Option V) (q : ℕ) (v : V) (o : Option V) → near_in xs q ≡ o → is_some o ≡ true → (n : ℕ)
    → or_far (near_in (slice_set xs (q % 64) (Some (record { name = q; value = v }))) n) (far n)
    ≡ upd (λ k. or_far (near_in xs k) (far k)) q (option_map (λ w. v) (or_far (near_in xs q) (far q))) n
unfolding near_in
rewritten xs far q v None is some n = absurd (cc)
rewritten xs far q v (Some h) is some n =
    both_changed (near_in xs) (near_in (slice_set xs (q % 64) (Some (record { name = q; value = v })))) far far q (Some v) (far q)
    (λ m. placed xs q (Some (record { name = q; value = v })) (near_within xs q h is) (of_own q (slice_index_or xs (q % 64) None) h is) (of_named q v) m
    ∙ ap (λ p. upd (near_in xs) q p m) (own_named q v))
    (same_written far q (far q) refl) n
    ∙ ap (λ p. upd (λ k. or_far (near_in xs k) (far k)) q p n) (sym (ap (λ p. option_map (λ w. v) (or_far p (far q))) is))
