-- What a clear of a pool makes of what lies on it and under it (apr_pool_clear, apr_pool_destroy; apr_buckets.h:
-- apr_bucket_pool_make).
use Rattle.std.specs.Prelude.{ℕ, Bool, false, if◌then◌else◌, ◌++◌, map, Option, Some, None}
use Rattle.run_model.specs.declared.bucket.BrigadeVar.{BrigadeVar}
use Rattle.run_model.specs.declared.bucket.BrigadeVar.TheVariants as var
use Rattle.run_model.specs.Pools.{is_under}
use Rattle.run_model.specs.RunOrder.{run_order}
use Rattle.run_model.specs.Buckets.{cleared_bucket}
use Rattle.run_model.specs.Payloads.{labels_in}
use Rattle.run_model.specs.State.{Configuration}

abbrev pub is_reached : (ℕ → Bool) → Option ℕ → Bool
is_reached reached None = false
is_reached reached (Some p) = reached p

-- Where these pools are reached: a brigade on one of them goes with its buckets, and of the others the homes end and
-- the POOL buckets become HEAP.
abbrev pub cleared_var : (ℕ → Bool) → BrigadeVar → BrigadeVar
cleared_var reached var.Null = var.Null
cleared_var reached var.Gone = var.Gone
cleared_var reached (var.Live v) =
    if is_reached reached v.on then var.Gone else var.Live (record v { items = map (cleared_bucket reached) v.items })

-- What becomes of what depends on the pool n and those under it: brigades on them go with their buckets, homes end, POOL
-- buckets become HEAP; and their labels are run. (The pools themselves are the pool map's matter.)
unfoldable pub run_down : ℕ → Configuration → Configuration
run_down n r =
    let reached = is_under r.shared.pools n in
    record r {
      instance = record r.instance { brigades = λ b. cleared_var reached (r.instance.brigades b) };
      call = record r.call { loose = map (cleared_bucket reached) r.call.loose };
      shared = record r.shared { labels = r.shared.labels ++ labels_in (run_order r.shared.pools n) };
    }
