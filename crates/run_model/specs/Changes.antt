-- How far the change of each effect goes: whether it stays with single buckets, or is one of brigades as a whole, of pools, or of a call.
use Rattle.std.specs.Prelude.{Bool, true, false}
use Rattle.run_model.specs.declared.effect.Effect.{Effect}
use Rattle.run_model.specs.declared.effect.Effect.TheVariants as effect

pub data Extent : Type 0 where
  -- single buckets, cursors, numbers and the buffer, that the instance left, or nothing
  OnBuckets : Extent
  -- single buckets, and what a pool holds
  OnBucketsAndPools : Extent
  -- brigades as a whole
  OnBrigades : Extent
  -- brigades as a whole, and what a pool holds
  OnBrigadesAndPools : Extent
  -- the pools, or what a pool holds
  OnPools : Extent
  -- a pool and all that lies under it: labels are run, files close, brigades go
  OnAllUnder : Extent
  -- the call, which ends
  OnCall : Extent

abbrev pub extent : Effect → Extent
extent effect.Nothing = OnBuckets
extent (effect.MakePool q) = OnPools
extent (effect.EmptyPool k q) = OnAllUnder
extent (effect.Register k q t) = OnPools
extent (effect.Kill q t) = OnPools
extent (effect.MakeBrigade o) = OnBrigadesAndPools
extent (effect.Clean b) = OnBrigades
extent (effect.Concat a b) = OnBrigades
extent (effect.SplitBrigade b c a) = OnBuckets
extent (effect.PartBrigade b x c) = OnBuckets
extent (effect.Save o b) = OnBrigadesAndPools
extent (effect.Pass b) = OnBrigades
extent (effect.First c b) = OnBuckets
extent (effect.Next d c) = OnBuckets
extent (effect.Unlink c) = OnBuckets
extent (effect.Delete c) = OnBuckets
extent (effect.Insert side b c) = OnBuckets
extent (effect.Before c d) = OnBuckets
extent (effect.Make c source) = OnBuckets
extent (effect.Split c x) = OnBuckets
extent (effect.Aside c q) = OnBucketsAndPools
extent (effect.Read c) = OnBuckets
extent (effect.Number n number) = OnBuckets
extent (effect.Put x) = OnBuckets
extent effect.ClearBuffer = OnBuckets
extent effect.Leave = OnBuckets
extent effect.Return = OnCall

-- whether the pool map is in it
abbrev pub has_pools : Extent → Bool
has_pools OnBuckets = false
has_pools OnBucketsAndPools = true
has_pools OnBrigades = false
has_pools OnBrigadesAndPools = true
has_pools OnPools = true
has_pools OnAllUnder = true
has_pools OnCall = false

-- whether all that lies under a pool is
abbrev pub has_all_under : Extent → Bool
has_all_under OnAllUnder = true
has_all_under x = false

-- whether it goes further than single buckets, and what a pool holds for them
abbrev pub is_wide : Extent → Bool
is_wide OnBuckets = false
is_wide OnBucketsAndPools = false
is_wide x = true
