-- Arrays read as functions of an index, each value by what it stands for.
use Rattle.std.proofs.Common.{◌≡◌, ◌≢◌, ℕ, ◌+◌, ◌<◌, ◌≤◌, Bool, false, List, [], length, slice_index_or, slice_set, ap, sym, ◌∙◌, subst, ⊎_elim, ◌⊎◌, inl, inr}
use Rattle.std.proofs.Common.{arith, get_or-set_same, get_or-set_other}
use Rattle.std.proofs.Math.Path.{fun_ext}
use Rattle.std.proofs.lemmas.List.{get_or_past}
use Rattle.std.proofs.lemmas.Bool.{cases_eq, cases_lt}
use Rattle.run_model.specs.Indexed.{upd}
use Rattle.run_model.proofs.Updates.{upd_at, upd_off}

-- what holds of the values so far holds of one more that is written
pub one_more : {A : Type 0} (P : ℕ → A → Type 0) (d : A) (xs : List A) (n m : ℕ) (v : A) → m ≡ n → n < length xs → P n v → ((k : ℕ) → k < n → P k (slice_index_or xs k d))
    → (k : ℕ) → k < n + 1 → P k (slice_index_or (slice_set xs m v) k d)
one_more {A} P d xs n m v same inside here so_far k h =
    ⊎_elim
    (λ (e : k ≡ m). subst (P k) (ap (λ j. slice_index_or (slice_set xs m v) j d) (sym e))
    (subst (P k) (sym (get_or-set_same xs m v d (omega arith))) (subst (λ (j : ℕ). P j v) (sym same ∙ sym e) here)))
    (λ (other : k ≢ m). subst (P k) (sym (get_or-set_other xs m k v d other)) (so_far k (omega arith)))
    (cases_eq k m)

module _ {A B : Type 0} (f : A → B) (d : A) where
  -- what holds below the length, and of what stands in beyond it, holds everywhere
  pub read_as : (n : ℕ) (xs : List A) (g : ℕ → B) → length xs ≡ n → ((i : ℕ) → i < n → f (slice_index_or xs i d) ≡ g i) → ((i : ℕ) → n ≤ i → f d ≡ g i)
      → (λ i. f (slice_index_or xs i d)) ≡ g
  read_as n xs g long here beyond =
      fun_ext (λ i. ⊎_elim (λ (h : i < n). here i h) (λ (h : n ≤ i). ap f (get_or_past xs i d (omega arith)) ∙ beyond i h) (cases_lt i n))

  -- one value is written
  pub read_set : (xs : List A) (n : ℕ) (v : A) → n < length xs → (λ i. f (slice_index_or (slice_set xs n v) i d)) ≡ upd (λ i. f (slice_index_or xs i d)) n (f v)
  read_set xs n v inside =
      fun_ext
      (λ i. ⊎_elim
      (λ (same : i ≡ n). subst (λ (k : ℕ). f (slice_index_or (slice_set xs n v) k d) ≡ upd (λ j. f (slice_index_or xs j d)) n (f v) k) (sym same)
      (ap f (get_or-set_same xs n v d inside) ∙ sym (upd_at (λ j. f (slice_index_or xs j d)) n (f v))))
      (λ (other : i ≢ n). ap f (get_or-set_other xs n i v d other) ∙ sym (upd_off (λ j. f (slice_index_or xs j d)) n i (f v) other))
      (cases_eq i n))

  pub read_set_at : (xs : List A) (n m : ℕ) (v : A) → m ≡ n → n < length xs → (λ i. f (slice_index_or (slice_set xs m v) i d)) ≡ upd (λ i. f (slice_index_or xs i d)) n (f v)
  read_set_at xs n m v same inside =
      subst (λ (k : ℕ). (λ i. f (slice_index_or (slice_set xs k v) i d)) ≡ upd (λ i. f (slice_index_or xs i d)) n (f v)) (sym same) (read_set xs n v inside)

-- a table of rows is what its places are, where nothing is beyond
pub table_is : (n : ℕ) (rows : List (List Bool)) (g : ℕ → ℕ → Bool) → length rows ≡ n → ((i : ℕ) → i < n → length (slice_index_or rows i []) ≡ n)
    → ((i j : ℕ) → i < n → j < n → slice_index_or (slice_index_or rows i []) j false ≡ g i j) → ((i j : ℕ) → n ≤ i → false ≡ g i j) → ((i j : ℕ) → n ≤ j → false ≡ g i j)
    → (λ i j. slice_index_or (slice_index_or rows i []) j false) ≡ g
table_is n rows g long wide here below beside =
    fun_ext (λ i. fun_ext (λ j. at i j (cases_lt i n) (cases_lt j n)))
  where
    at : (i j : ℕ) → (i < n) ⊎ (n ≤ i) → (j < n) ⊎ (n ≤ j) → slice_index_or (slice_index_or rows i []) j false ≡ g i j
    at i j (inl h) (inl k) = here i j h k
    at i j (inl h) (inr k) = get_or_past (slice_index_or rows i []) j false (subst (λ (m : ℕ). m ≤ j) (sym (wide i h)) k) ∙ beside i j k
    at i j (inr h) k = ap (λ row. slice_index_or row j false) (get_or_past rows i [] (subst (λ (m : ℕ). m ≤ i) (sym long) h)) ∙ below i j h
