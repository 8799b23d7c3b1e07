-- Names that are not the same, and pools that are not the last of a list.
use Rattle.std.proofs.Common.{◌≡◌, ◌≢◌, ◌==◌, ◌||◌, ℕ, Bool, true, false, List, [], ◌∷◌, ◌++◌, refl, sym, ap, ◌∙◌, inl, inr}
use Rattle.std.proofs.lemmas.Bool.{cases_Bool, ne_eqb}
use Rattle.std.proofs.lemmas.List.Folds.{list_any-append}
use Rattle.bucket_ring.specs.declared.names.BucketId.{BucketId}
use Rattle.bucket_ring.specs.Laws.{same_name, same_self}
use Rattle.bucket_ring.specs.Lists.{same, times}
use Rattle.run_model.specs.Pools.{is_in}

pub not_same : (i j : BucketId) → same i j ≡ false → same j i ≡ false
not_same i j miss = elim (cases_Bool (same j i)) [
  | inl hit ↦ absurd (let both : true ≡ false = sym (same_self j) ∙ (ap (λ (k : BucketId). same k j) (same_name j i hit) ∙ miss) in cc)
  | inr e ↦ e
]

pub later_times : {T : Type 0} (id name : BucketId) (x : T) (xs ys : List (BucketId × T)) → same id name ≡ false → xs ≡ (name, x) ∷ ys → times id ys ≡ 0 → times id xs ≡ 0
later_times id name x xs ys miss e none = ap (times id) e ∙ rw (not_same id name miss) none

or_none : (b : Bool) → (b || (false || false)) ≡ b
or_none true = refl
or_none false = refl

pub in_more_other : (b ring : ℕ) (rings : List ℕ) → (ring ≢ b) → is_in b (rings ++ ring ∷ []) ≡ is_in b rings
in_more_other b ring rings ne = list_any-append (λ m. m == b) rings (ring ∷ []) ∙ (ap (λ s. is_in b rings || (s || false)) (ne_eqb ring b ne) ∙ or_none (is_in b rings))
