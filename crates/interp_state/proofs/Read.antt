-- Items as they read while calls run.
use Rattle.std.proofs.Common.{◌≡◌, ℕ, suc, ◌<◌, Bool, true, false, List, [], ◌∷◌, ◌++◌, drop, refl, sym, ap, subst, ◌∙◌}
use Rattle.std.specs.Prelude.{if◌then◌else◌}
use Rattle.bucket_ring.specs.declared.names.BucketId.{BucketId}
use Rattle.bucket_ring.specs.Lists as ring
use Rattle.bucket_ring.specs.Lists.{same, times, front, rest, found}
use Rattle.run_model.specs.declared.bucket.NamedBucket.{NamedBucket}
use Rattle.run_model.specs.BrigadeLists as model
use Rattle.bucket_store.specs.Items.{Item, Items, named, named_item}
use Rattle.bucket_store.specs.Laws.{IsGiven}
use Rattle.bucket_store.proofs.Models.{lists_are_the_models}
use Rattle.interp_state.specs.Seen.{item_in, read_in, shown}

module _ (runs : ℕ → Bool) where
  pub read_append : (xs ys : Items) → read_in runs (xs ++ ys) ≡ read_in runs xs ++ read_in runs ys
  read_append [] ys = refl
  read_append (x ∷ xs) ys = ap (λ (zs : Items). item_in runs x ∷ zs) (read_append xs ys)

  pub read_drop : (xs : Items) → read_in runs (drop 1 xs) ≡ drop 1 (read_in runs xs)
  read_drop [] = refl
  read_drop (x ∷ xs) = refl

  pub read_front : (id : BucketId) (xs : Items) → front id (read_in runs xs) ≡ read_in runs (front id xs)
  read_front id [] = refl
  read_front id (x ∷ xs) = go (read_front id xs) (same x.0 id) refl where
    go : front id (read_in runs xs) ≡ read_in runs (front id xs) → (s : Bool) → same x.0 id ≡ s → front id (read_in runs (x ∷ xs)) ≡ read_in runs (front id (x ∷ xs))
    go later true hit = rw hit refl
    go later false miss = rw miss (ap (λ (zs : Items). item_in runs x ∷ zs) later)

  pub read_rest : (id : BucketId) (xs : Items) → rest id (read_in runs xs) ≡ read_in runs (rest id xs)
  read_rest id [] = refl
  read_rest id (x ∷ xs) = go (read_rest id xs) (same x.0 id) refl where
    go : rest id (read_in runs xs) ≡ read_in runs (rest id xs) → (s : Bool) → same x.0 id ≡ s → rest id (read_in runs (x ∷ xs)) ≡ read_in runs (rest id (x ∷ xs))
    go later true hit = rw hit refl
    go later false miss = rw miss later

  pub read_times : (id : BucketId) (xs : Items) → times id (read_in runs xs) ≡ times id xs
  read_times id [] = refl
  read_times id (x ∷ xs) = ap (λ n. if same x.0 id then suc n else n) (read_times id xs)

  pub read_given : (id : BucketId) (xs : Items) → IsGiven id xs → IsGiven id (read_in runs xs)
  read_given id xs given i there birth = given i (subst (λ (n : ℕ). 0 < n) (read_times i xs) there) birth

  pub read_without : (id : BucketId) (xs : Items) → ring.without id (read_in runs xs) ≡ read_in runs (ring.without id xs)
  read_without id xs =
      ap (λ (ys : Items). ys ++ drop 1 (rest id (read_in runs xs))) (read_front id xs)
      ∙ (ap (λ (ys : Items). read_in runs (front id xs) ++ drop 1 ys) (read_rest id xs)
      ∙ (ap (λ (ys : Items). read_in runs (front id xs) ++ ys) (sym (read_drop (rest id xs))) ∙ sym (read_append (front id xs) (drop 1 (rest id xs)))))

  pub shown_without : (id : BucketId) (xs : Items) → IsGiven id xs → shown runs (ring.without id xs) ≡ model.taken_out id.birth (shown runs xs)
  shown_without id xs given = sym (ap named (read_without id xs)) ∙ lists_are_the_models.taken id (read_in runs xs) (read_given id xs given)

  pub named_append : (xs ys : Items) → named (xs ++ ys) ≡ named xs ++ named ys
  named_append [] ys = refl
  named_append (x ∷ xs) ys = ap (λ (zs : List NamedBucket). named_item x ∷ zs) (named_append xs ys)

  pub shown_append : (xs ys : Items) → shown runs (xs ++ ys) ≡ shown runs xs ++ shown runs ys
  shown_append xs ys = ap named (read_append xs ys) ∙ named_append (read_in runs xs) (read_in runs ys)

  read_before : (at : BucketId) (b : Item) (xs : Items) → ring.put_before at (item_in runs b) (read_in runs xs) ≡ read_in runs (ring.put_before at b xs)
  read_before at b xs =
      ap (λ (ys : Items). (ys ++ item_in runs b ∷ []) ++ rest at (read_in runs xs)) (read_front at xs)
      ∙ (ap (λ (ys : Items). (read_in runs (front at xs) ++ item_in runs b ∷ []) ++ ys) (read_rest at xs)
      ∙ sym (read_append (front at xs ++ b ∷ []) (rest at xs) ∙ ap (λ (ys : Items). ys ++ read_in runs (rest at xs)) (read_append (front at xs) (b ∷ []))))

  pub shown_before : (at : BucketId) (b : Item) (xs : Items) → IsGiven at xs → shown runs (ring.put_before at b xs) ≡ model.put_before at.birth (named_item (item_in runs b)) (shown runs xs)
  shown_before at b xs given = sym (ap named (read_before at b xs)) ∙ lists_are_the_models.before at (item_in runs b) (read_in runs xs) (read_given at xs given)
