-- Changes of brigades that were worked out by hand.
use Rattle.std.specs.Prelude.{◌≡◌, ℕ, false, Option, None, Some, List, [], ◌∷◌}
use Rattle.bucket_ring.specs.Lists.{upd, on, list_at, put_tail, with_payload}
use Rattle.bucket_ring.specs.Rows.{a, b, c, d}
use Rattle.run_model.specs.declared.bucket.Bucket.{Bucket}
use Rattle.run_model.specs.declared.bucket.Kind.TheVariants as kind
use Rattle.run_model.specs.declared.bucket.Content.TheVariants as content
use Rattle.run_model.specs.declared.bucket.Home.TheVariants as home
use Rattle.run_model.specs.declared.payload.Payload.{Payload}
use Rattle.run_model.specs.declared.payload.Payload.TheVariants.{FileRef}
use Rattle.run_model.specs.Buckets.{is_data_kind}
use Rattle.run_model.specs.Cutting.{length_of, split_at, set_aside}
use Rattle.run_model.specs.Pools.{Pools, planted, created}
use Rattle.run_model.specs.Steps.{is_above}
use Rattle.bucket_ring.specs.declared.names.BucketId.{BucketId}
use Rattle.bucket_store.specs.Items.{Items, replaced, before_place, from_place, file_for, pools_for, count_for}

abbrev pub heap : List ℕ → Bucket
heap bytes = record { kind = kind.Heap; content = content.Bytes bytes; home = home.Free }

abbrev pub eos : Bucket
eos = record { kind = kind.Eos; content = content.Nothing; home = home.Free }

-- so many bytes of the file 1, from a place on, whose home is a pool
abbrev pub range : ℕ → ℕ → ℕ → Bucket
range pool start len = record { kind = kind.File; content = content.Range 1 start len; home = home.Pool pool }

-- brigade 1 has three buckets, and brigade 2 has one
abbrev pub two : ℕ → Option Items
two = upd (upd (λ n. None) 1 (Some ((a, heap (97 ∷ [])) ∷ (b, heap (98 ∷ [])) ∷ (c, eos) ∷ []))) 2 (Some ((d, eos) ∷ []))

-- the first is split at a place into the second
abbrev pub split_into : Option BucketId → ℕ → Option Items
split_into place = on 2 (λ xs. from_place place (list_at two 1)) (on 1 (before_place place) two)

pub record BrigadeSplits : Type 0 where
  pub stays : split_into (Some b) 1 ≡ Some ((a, heap (97 ∷ [])) ∷ [])
  pub moves : split_into (Some b) 2 ≡ Some ((b, heap (98 ∷ [])) ∷ (c, eos) ∷ [])
  pub all_stay : split_into None 1 ≡ two 1
  pub none_moves : split_into None 2 ≡ Some []

-- a bucket before another, which is split after n bytes; its rest gets the name d
abbrev pub halves : ℕ → Bucket → Items
halves n x = replaced a (split_at n x).0 ((d, (split_at n x).1) ∷ []) ((a, x) ∷ (b, eos) ∷ [])

abbrev pub pool_bytes : Bucket
pool_bytes = record { kind = kind.Pool 2; content = content.Bytes (97 ∷ 98 ∷ []); home = home.Free }

-- the pool 2 under the root, and what setting a bucket aside into a pool makes of it
abbrev pub pools : Pools Payload
pools = created 1 (planted 1)

abbrev pub put_aside : ℕ → Bucket → Items
put_aside pool x = with_payload a (set_aside pool (is_above pools pool x.home) x) ((a, x) ∷ (b, eos) ∷ [])

pub record BucketChanges : Type 0 where
  pub at_start : halves 0 (heap (97 ∷ 98 ∷ [])) ≡ (a, heap []) ∷ (d, heap (97 ∷ 98 ∷ [])) ∷ (b, eos) ∷ []
  pub inside : halves 1 (heap (97 ∷ 98 ∷ [])) ≡ (a, heap (97 ∷ [])) ∷ (d, heap (98 ∷ [])) ∷ (b, eos) ∷ []
  pub at_end : halves 2 (heap (97 ∷ 98 ∷ [])) ≡ (a, heap (97 ∷ 98 ∷ [])) ∷ (d, heap []) ∷ (b, eos) ∷ []
  pub too_long : length_of (heap (97 ∷ 98 ∷ [])).content ≡ 2
  pub metadata : is_data_kind eos.kind ≡ false
  pub range_inside : halves 4 (range 2 5 10) ≡ (a, range 2 5 4) ∷ (d, range 2 9 6) ∷ (b, eos) ∷ []
  pub pool_copied : put_tail (d, pool_bytes) ((a, pool_bytes) ∷ []) ≡ (a, pool_bytes) ∷ (d, pool_bytes) ∷ []
  pub eos_copied : put_tail (d, eos) ((a, eos) ∷ []) ≡ (a, eos) ∷ (d, eos) ∷ []
  pub transient_aside : put_aside 2 (record { kind = kind.Transient; content = content.Bytes (97 ∷ []); home = home.Call 1 }) ≡ (a, heap (97 ∷ [])) ∷ (b, eos) ∷ []
  -- a file whose home is above the pool stays as it is; else its home is the pool, which gets a reference
  pub above_aside : put_aside 2 (range 1 5 10) ≡ (a, range 1 5 10) ∷ (b, eos) ∷ []
  pub above_refers : file_for pools 2 (range 1 5 10) ≡ None
  pub file_aside : put_aside 1 (range 2 5 10) ≡ (a, range 1 5 10) ∷ (b, eos) ∷ []
  pub file_refers : (pools_for 1 (file_for pools 1 (range 2 5 10)) pools).payloads 1 ≡ record { pre = []; plain = FileRef 1 ∷ [] }
  pub file_counted : count_for 1 (file_for pools 1 (range 2 5 10)) 0 ≡ 1
