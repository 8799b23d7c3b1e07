-- The buckets before k are held as they were brought, and the others are as they were.
use Rattle.std.proofs.Common.{◌≡◌, ◌<◌, ◌≤◌, ℕ, length, get_or}
use Rattle.bucket_kinds.specs.declared.stored.Stored.{Stored}
use Rattle.bucket_store.specs.Regions.{look}
use Rattle.bucket_store.specs.BucketStore.{seen}
use Rattle.bucket_store.proofs.Placing.{IsHeldAs}
use Rattle.bucket_store.proofs.bucket_store.BucketStore.place_all.Given as goal

abbrev pub invariant-loop-k : goal.invariant-loop-k
invariant-loop-k g l = record {
  many : length l.buckets.items ≡ length l.fn.buckets.items;
  done : (j : ℕ) (d : Stored) → j < l.k → IsHeldAs (look l.self.regions) (get_or l.fn.buckets.items j d) (get_or l.buckets.items j d);
  rest : (j : ℕ) (d : Stored) → l.k ≤ j → get_or l.buckets.items j d ≡ get_or l.fn.buckets.items j d;
  rings : l.self.rings ≡ l.initial.self.rings;
  same : (n : ℕ) → seen l.self n ≡ seen l.initial.self n;
}
