-- What is true of each bucket of a list, where the list is cut, changed and put together; and names that are single.
use Rattle.std.proofs.Common.{◌≡◌, ℕ, zero, suc, ◌+◌, ◌<◌, ◌≤◌, Bool, true, false, ◌==◌, cond, List, [], ◌∷◌, drop, Some, All, inl, inr, refl, sym, ◌∙◌, ap, subst, arith}
use Rattle.std.proofs.lemmas.Bool.Decides.{eqb_tells}
use Rattle.std.proofs.lemmas.List.Elements.{All-nil, All-cons, All-head, All-tail, All-append, All-push, All-map, All-drop}
use Rattle.run_model.specs.declared.bucket.NamedBucket.{NamedBucket}
use Rattle.run_model.specs.BrigadeLists.{buckets_before, buckets_from, first_bucket, bucket_named, taken_out, put_head, put_tail, put_before}
use Rattle.run_model.specs.Sound.{SoundNames, sum_below, count_named, count}
use Rattle.run_model.specs.State.{Configuration}
use Rattle.run_model.specs.BucketSteps.{items_at, changed_at}
use Rattle.run_model.proofs.Names.{count_cons}

-- What is true of each bucket of a list.
module _ (P : NamedBucket → Type 0) where
  pub each_before : (n : ℕ) (bs : List NamedBucket) → All P bs → All P (buckets_before n bs)
  unfolding buckets_before
  each_before n [] h = All-nil P
  each_before n (b ∷ bs) h = by_name (b.name == n) (each_before n bs (All-tail P b bs h)) where
    by_name : (t : Bool) → All P (buckets_before n bs) → All P (cond t [] (b ∷ buckets_before n bs))
    by_name true rest = All-nil P
    by_name false rest = All-cons P b (buckets_before n bs) (All-head P b bs h) rest

  pub each_from : (n : ℕ) (bs : List NamedBucket) → All P bs → All P (buckets_from n bs)
  unfolding buckets_from
  each_from n [] h = All-nil P
  each_from n (b ∷ bs) h = by_name (b.name == n) (each_from n bs (All-tail P b bs h)) where
    by_name : (t : Bool) → All P (buckets_from n bs) → All P (cond t (b ∷ bs) (buckets_from n bs))
    by_name true rest = h
    by_name false rest = rest

  first_so : (x : NamedBucket) (ys : List NamedBucket) → first_bucket ys ≡ Some x → All P ys → P x
  first_so x [] is h = absurd (cc)
  first_so x (y ∷ ys) is h = let same : y ≡ x = cc in subst P same (All-head P y ys h)

  pub of_named : (n : ℕ) (x : NamedBucket) (bs : List NamedBucket) → bucket_named n bs ≡ Some x → All P bs → P x
  of_named n x bs is h = first_so x (buckets_from n bs) is (each_from n bs h)

  pub each_taken_out : (n : ℕ) (bs : List NamedBucket) → All P bs → All P (taken_out n bs)
  each_taken_out n bs h = All-append P (buckets_before n bs) (drop 1 (buckets_from n bs)) (each_before n bs h) (All-drop P 1 (buckets_from n bs) (each_from n bs h))

  pub each_put_head : (x : NamedBucket) (bs : List NamedBucket) → P x → All P bs → All P (put_head x bs)
  each_put_head x bs new h = All-cons P x bs new h

  pub each_put_tail : (x : NamedBucket) (bs : List NamedBucket) → P x → All P bs → All P (put_tail x bs)
  each_put_tail x bs new h = All-push P bs x h new

  pub each_put_before : (at : ℕ) (x : NamedBucket) (bs : List NamedBucket) → P x → All P bs → All P (put_before at x bs)
  each_put_before at x bs new h = All-append P (buckets_before at bs) (x ∷ buckets_from at bs) (each_before at bs h) (All-cons P x (buckets_from at bs) new (each_from at bs h))

-- the same of a list in which those of one name change
pub each_changed : (P Q : NamedBucket → Type 0) (n : ℕ) (change : NamedBucket → NamedBucket) (bs : List NamedBucket)
    → ((y : NamedBucket) → P y → Q y) → All (λ y. (y.name == n) ≡ true → P y → Q (change y)) bs → All P bs → All Q (changed_at n change bs)
each_changed P Q n change bs stay changed h = All-map Q (λ b. cond (b.name == n) (change b) b) bs (λ k d lt. one _ (changed k d lt) (h k d lt)) where
  one : (y : NamedBucket) → ((y.name == n) ≡ true → P y → Q (change y)) → P y → Q (cond (y.name == n) (change y) y)
  one y changes p = by_name (y.name == n) changes where
    by_name : (t : Bool) → (t ≡ true → P y → Q (change y)) → Q (cond t (change y) y)
    by_name true changes = changes refl p
    by_name false changes = stay y p

-- Names that are single.

none_named : (n : ℕ) (bs : List NamedBucket) → count_named n bs ≡ 0 → All (λ y. (y.name == n) ≡ true → ⊥) bs
none_named n [] none = All-nil (λ y. (y.name == n) ≡ true → ⊥)
none_named n (b ∷ bs) none =
    let both = count_cons n b bs in
    All-cons (λ y. (y.name == n) ≡ true → ⊥) b bs (differs both) (none_named n bs (omega arith)) where
      differs : count_named n (b ∷ bs) ≡ cond (b.name == n) 1 0 + count_named n bs → (b.name == n) ≡ true → ⊥
      differs both same = let one : ◌≡◌ {A = ℕ} (cond (b.name == n) 1 0) 1 = ap (λ (t : Bool). cond t 1 0) same in omega arith

-- a bucket that is found is the only one of its name, where the name is single
pub only_one : (n : ℕ) (x : NamedBucket) (bs : List NamedBucket) → bucket_named n bs ≡ Some x → count_named n bs ≤ 1 → All (λ y. (y.name == n) ≡ true → y ≡ x) bs
unfolding buckets_from
only_one n x [] is once = absurd (cc)
only_one n x (b ∷ bs) is once = by_name (b.name == n) refl is (λ later few. only_one n x bs later few) where
  by_name : (t : Bool) → (b.name == n) ≡ t → first_bucket (cond t (b ∷ bs) (buckets_from n bs)) ≡ Some x
      → (bucket_named n bs ≡ Some x → count_named n bs ≤ 1 → All (λ y. (y.name == n) ≡ true → y ≡ x) bs) → All (λ y. (y.name == n) ≡ true → y ≡ x) (b ∷ bs)
  by_name true same is rest =
      let here : b ≡ x = cc in
      let both = count_cons n b bs in
      let one : ◌≡◌ {A = ℕ} (cond (b.name == n) 1 0) 1 = ap (λ (t : Bool). cond t 1 0) same in
      All-cons (λ y. (y.name == n) ≡ true → y ≡ x) b bs (λ h. here) (λ k d lt. λ h. absurd (none_named n bs (omega arith) k d lt h))
  by_name false same is rest =
      let both = count_cons n b bs in
      All-cons (λ y. (y.name == n) ≡ true → y ≡ x) b bs (λ h. absurd (let no : false ≡ true = sym same ∙ h in cc)) (rest is (omega arith))

term_below : (n k : ℕ) (f : ℕ → ℕ) → k < n → f k ≤ sum_below n f
unfolding sum_below
term_below zero k f lt = absurd (omega arith)
term_below (suc n) k f lt = elim (eqb_tells k n) [
  | inl same ↦ (let is : f k ≡ f n = ap f same.1 in omega arith)
  | inr differ ↦ (let le : f k ≤ sum_below n f = term_below n k f (omega (arith, differ.1)) in omega arith)
]

pub loose_once : (r : Configuration) (n : ℕ) → SoundNames r → count_named n r.call.loose ≤ 1
loose_once r n s = let all : count r n ≤ 1 = s.once n in omega arith

pub brigade_once : (r : Configuration) (b n : ℕ) → b < 9 → SoundNames r → count_named n (items_at r b) ≤ 1
brigade_once r b n lt s =
    let all : count r n ≤ 1 = s.once n in
    let one : count_named n (items_at r b) ≤ sum_below 9 (λ k. count_named n (items_at r k)) = term_below 9 b (λ k. count_named n (items_at r k)) lt in
    omega arith
