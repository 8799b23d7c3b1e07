-- What is done to a store once there is room in it, as it is seen from the store that was.
use Rattle.std.proofs.Common.{◌≡◌, ℕ, true, Option, is_some, sym, ap, subst, ◌<◌, ◌∙◌}
use Rattle.bucket_ring.specs.declared.names.BucketId.{BucketId}
use Rattle.bucket_ring.specs.declared.rings.Rings.{Ghosts}
use Rattle.bucket_ring.specs.Kept.{NoneRevived}
use Rattle.bucket_ring.specs.Lists.{on}
use Rattle.run_model.specs.declared.bucket.Bucket.{Bucket}
use Rattle.bucket_kinds.specs.declared.stored.Stored.{Stored}
use Rattle.bucket_store.specs.Items.{Item, Items}
use Rattle.bucket_store.specs.BucketStore.{seen}
use Rattle.brigade_ops.specs.declared.store.Brigades.{Brigades}
use Rattle.brigade_ops.specs.Store.{lists}
use Rattle.bucket_store.proofs.Shown.{on_cong}

-- a bucket that is put in, and is seen as another one
pub added : (b n : ℕ) (put : Item → Items → Items) (id : BucketId) (x y : Bucket) (old roomy : ℕ → Option Items) → x ≡ y → ((m : ℕ) → roomy m ≡ old m)
    → on b (put (id, x)) roomy n ≡ on b (put (id, y)) old n
added b n put id x y old roomy is same = ap (λ (z : Bucket). on b (put (id, z)) roomy n) is ∙ on_cong b (put (id, y)) roomy old same n

-- the same of a store, and of a brigade that is there
module _ {R : Type 0} {g : Ghosts R Stored} (old roomy : Brigades R g) (same : (m : ℕ) → lists roomy m ≡ lists old m) (b : ℕ) where
  pub added_to : (n : ℕ) (put : Item → Items → Items) (id : BucketId) (x y : Bucket) (new : Brigades R g) → seen new.held n ≡ on b (put (id, x)) (seen roomy.held) n → x ≡ y
      → lists new n ≡ on b (put (id, y)) (lists old) n
  unfolding lists
  added_to n put id x y new out is = out ∙ added b n put id x y (lists old) (lists roomy) is same

  pub still_there : is_some (lists old b) ≡ true → is_some (seen roomy.held b) ≡ true
  unfolding lists
  still_there there = ap is_some (same b) ∙ there

-- no name comes to life
pub none_since : (old roomy new : BucketId → Option ℕ) (n m : ℕ) → ((id : BucketId) → roomy id ≡ old id) → m ≡ n → NoneRevived roomy new m
    → NoneRevived old new n
none_since old roomy new n m same next names id there young = ap is_some (sym (same id)) ∙ names id there (subst (λ (k : ℕ). id.birth < k) (sym next) young)
