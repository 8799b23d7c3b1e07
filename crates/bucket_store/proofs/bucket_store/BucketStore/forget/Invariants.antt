-- The regions of the pools so far are given up; the rings are as they were, and so is what they show.
use Rattle.std.proofs.Common.{◌≡◌, ℕ, true, take}
use Rattle.run_model.specs.Pools.{is_in}
use Rattle.bucket_store.specs.BucketStore.{seen, IsGivenUp}
use Rattle.bucket_store.proofs.bucket_store.BucketStore.forget.Given as goal

abbrev pub invariant-loop-pool : goal.invariant-loop-pool
invariant-loop-pool g l = record {
  given_up : (p : ℕ) → is_in p (take l.pool-index l.pools) ≡ true → IsGivenUp l.self p;
  others : (p : ℕ) → IsGivenUp l.initial.self p → IsGivenUp l.self p;
  rings : l.self.rings.rings ≡ l.initial.self.rings.rings;
  same : (n : ℕ) → seen l.self n ≡ seen l.initial.self n;
}
