-- What visitors of a brigade have seen: one that goes along it up to a point, and one that adds up its lengths.
use Rattle.std.proofs.Common.{◌≡◌, ◌≢◌, ◌==◌, ℕ, zero, suc, ◌+◌, ◌-◌, ◌*◌, ◌^◌, ◌<◌, ◌≤◌, min, nat_lt, arith}
use Rattle.std.proofs.Common.{Bool, true, false, ◌||◌, [], ◌∷◌, Option, None, Some, length, refl, sym, ap, ◌∙◌, inl, inr}
use Rattle.std.specs.Prelude.{if◌then◌else◌}
use Rattle.std.proofs.lemmas.Bool.Decides.{nat_tests}
use Rattle.bucket_ring.specs.declared.names.BucketId.{BucketId}
use Rattle.run_model.specs.declared.bucket.Bucket.{Bucket}
use Rattle.run_model.specs.BrigadeLists.{length_in}
use Rattle.run_model.specs.Cutting.{length_of}
use Rattle.bucket_store.specs.declared.parting.Point.{Point}
use Rattle.bucket_store.specs.declared.parting.Point.TheVariants as point
use Rattle.bucket_store.specs.Items.{Item, Items, named}
use Rattle.bucket_store.specs.Points.{point_in}
use Rattle.bucket_store.proofs.Points.{inside_first, past_first}
use Rattle.brigade_ops.specs.Visits.{AreVisited, BucketVisits}

-- where a point lies, of which so much was left when the walk stopped there, or nowhere
abbrev pub come_to : Option BucketId → ℕ → Point
come_to stop zero = point.At stop
come_to None (suc n) = point.Short
come_to (Some id) (suc n) = point.Inside id (suc n)

at_no_bucket : (n : ℕ) → point_in n [] ≡ come_to None n
unfolding point_in
at_no_bucket zero = refl
at_no_bucket (suc n) = refl

above : (n m : ℕ) → n ≢ 0 → true ≡ (n == 0 || nat_lt n m) → n < m
above n m some h = grind (arith, nat_tests)

not_above : (n m : ℕ) → n ≢ 0 → false ≡ (n == 0 || nat_lt n m) → m ≤ n
not_above n m some h = grind (arith, nat_tests)

stops_first : (n : ℕ) (x : Item) (xs : Items) → true ≡ (n == 0 || nat_lt n (length_of x.1.content)) → point_in n (x ∷ xs) ≡ come_to (Some x.0) n
unfolding point_in
stops_first zero x xs here = refl
stops_first (suc n) x xs here = inside_first x.0 x.1 xs (suc n) (λ e. cc) (above (suc n) (length_of x.1.content) (λ e. cc) here)

passes_first : (n : ℕ) (x : Item) (xs : Items) → false ≡ (n == 0 || nat_lt n (length_of x.1.content)) → point_in n (x ∷ xs) ≡ point_in (n - length_of x.1.content) xs
passes_first zero x xs on = absurd (cc)
passes_first (suc n) x xs on = sym (past_first x.0 x.1 xs (suc n) (length_of x.1.content) refl (λ e. cc) (not_above (suc n) (length_of x.1.content) (λ e. cc) on))

abbrev Adds : {S : Type 0} → (S → ℕ) → S → Bucket → Bool → S → Type 0
Adds total s x stop t = (stop ≡ false) × (length_of x.content < 2 ^ 64) × (total t ≡ min (total s + length_of x.content) (2 ^ 128 - 1))

module _ {S : Type 0} (visits : BucketVisits S) where
  module _ (left : S → ℕ)
      (goes : (s : S) (id : BucketId) (x : Bucket) (stop : Bool) (t : S) → visits s id x stop t → (stop ≡ (left s == 0 || nat_lt (left s) (length_of x.content)))
      × (left t ≡ (if stop then left s else left s - length_of x.content))) where
    pub point_found : (s : S) (xs : Items) (stop : Option BucketId) (t : S) → AreVisited visits s xs stop t → point_in (left s) xs ≡ come_to stop (left t)
    point_found s [] stop t end = at_no_bucket (left s) ∙ (ap (λ o. come_to o (left s)) (sym end.0) ∙ ap (λ u. come_to stop (left u)) (sym end.1))
    point_found s (x ∷ xs) stop t (inl here) =
        let g = goes s x.0 x.1 true t here.seen in
        stops_first (left s) x xs g.0 ∙ (ap (λ o. come_to o (left s)) (sym here.here) ∙ ap (come_to stop) (sym g.1))
    point_found s (x ∷ xs) stop t (inr on) =
        let g = goes s x.0 x.1 false on.0 on.1 in
        passes_first (left s) x xs g.0 ∙ (ap (λ n. point_in n xs) (sym g.1) ∙ point_found on.0 xs stop t on.2)

  module _ (total : S → ℕ)
      (adds : (s : S) (id : BucketId) (x : Bucket) (stop : Bool) (t : S) → visits s id x stop t → Adds total s x stop t) where
    -- the total stays small where so many buckets are left
    pub all_added : (s : S) (xs : Items) (stop : Option BucketId) (t : S) → total s + length xs * 2 ^ 64 < 2 ^ 128 → AreVisited visits s xs stop t → total t ≡ total s + length_in (named xs)
    unfolding length_in
    all_added s [] stop t small end = ap total end.1 ∙ sym (omega arith)
    all_added s (x ∷ xs) stop t small (inl here) = absurd (let no = (adds s x.0 x.1 true t here.seen).0 in cc)
    all_added s (x ∷ xs) stop t small (inr on) =
        let a = adds s x.0 x.1 false on.0 on.1 in
        let few = a.1 in
        let most = a.2 in
        let sum : total on.0 ≡ total s + length_of x.1.content = grind (arith, few, most, small) in
        let rest = all_added on.0 xs stop t (omega (arith, sum, few, small)) on.2 in
        omega (arith, sum, rest)
