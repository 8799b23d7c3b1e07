-- Points that a walk along a brigade comes to.
use Rattle.std.proofs.Common.{◌≡◌, ◌≢◌, ℕ, zero, suc, ◌-◌, ◌<◌, ◌≤◌, nat_le, true, false, ◌∷◌, refl, arith}
use Rattle.std.proofs.lemmas.Bool.Decides.{nat_tests}
use Rattle.run_model.specs.declared.bucket.Bucket.{Bucket}
use Rattle.run_model.specs.Cutting.{length_of}
use Rattle.bucket_ring.specs.declared.names.BucketId.{BucketId}
use Rattle.bucket_store.specs.declared.parting.Point.TheVariants as point
use Rattle.bucket_store.specs.Items.{Items}
use Rattle.bucket_store.specs.Points.{point_in}

at_most : (a b : ℕ) → a ≤ b → nat_le a b ≡ true
at_most a b le = grind (arith, nat_tests)

above : (a b : ℕ) → b < a → nat_le a b ≡ false
above a b lt = grind (arith, nat_tests)

module _ (id : BucketId) (x : Bucket) (ys : Items) where
  pub inside_first : (left : ℕ) → left ≢ 0 → left < length_of x.content → point_in left ((id, x) ∷ ys) ≡ point.Inside id left
  unfolding point_in
  inside_first zero ne lt = absurd (ne refl)
  inside_first (suc p) ne lt = rw (above (length_of x.content) (suc p) lt) refl

  pub past_first : (left len : ℕ) → len ≡ length_of x.content → left ≢ 0 → len ≤ left → point_in (left - len) ys ≡ point_in left ((id, x) ∷ ys)
  unfolding point_in
  past_first zero len is ne le = absurd (ne refl)
  past_first (suc p) len is ne le = rw (is, at_most (length_of x.content) (suc p) (rw is at le)) refl
